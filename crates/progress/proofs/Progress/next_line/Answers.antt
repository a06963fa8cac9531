-- `progress::Progress::next_line` adds 1 as long as it can.
use native.Mathlib.Omega.{arith}
use Rattle.lines.specs.Statement.{next_number}
use Rattle.progress.proofs.Lines.{capped}
use Rattle.progress.proofs.Progress.next_line.Goals as goal

pub returns : goal.returns
unfolding next_number
returns c = capped _ _ _ (omega arith) c.saturating_add.ensures
