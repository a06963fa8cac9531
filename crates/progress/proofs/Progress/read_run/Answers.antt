-- `progress::Progress::read_run` is at fault where the run doesn't fit.
use Rattle.progress.proofs.RunLines.{run_added, run_refused}
use Rattle.progress.proofs.Progress.read_run.Goals as goal

pub returns-in_err-add : goal.returns-in_err-add
returns-in_err-add c = rw c.from_residual.ensures (run_refused c.args.self.now c.args.run _ c.in_err-add.ensures.refused)

pub returns : goal.returns
returns c = run_added c.args.self.now c.args.run _ c.in_ok-add.ensures.added
