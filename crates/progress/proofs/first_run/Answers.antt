-- `progress::first_run` asks for a newline and then for a run before it.
use mathlib.Core.Path.{sym, ◌∙◌}
use Rattle.progress.proofs.RunLines.{first_absent, first_not}
use Rattle.progress.proofs.first_run.Goals as goal

pub returns-in_err-line : goal.returns-in_err-line
returns-in_err-line c = rw c.from_residual.ensures (first_absent c.args.input.now c.in_err-line.ensures)

pub returns-in_err-run_in : goal.returns-in_err-run_in
returns-in_err-run_in c = rw c.from_residual-in_err-run_in.ensures (first_not c.in_ok-line.ensures (sym c.in_err-run_in.was ∙ c.run_in.ensures))
