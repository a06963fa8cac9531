-- `progress::run_in` has a run where the line has numbers.
use mathlib.Core.Path.{◌∙◌}
use native.Mathlib.Omega.{arith}
use Rattle.progress.proofs.RunLines.{run_is, run_not}
use Rattle.progress.proofs.run_in.Goals as goal

pub returns-in_err-count : goal.returns-in_err-count
returns-in_err-count c = c.from_residual.ensures ∙ run_not c.args.line.now c.in_err-count.ensures

pub returns : goal.returns
returns c = run_is c.args.line.now _ c.in_ok-count.ensures (λ h. omega arith)
