-- `progress::Progress::stop` writes the number of the line, and no line is expected any more.
use mathlib.Core.Path.{refl}
use Rattle.lines.specs.Statement.{fault}
use Rattle.progress.proofs.Progress.stop.Goals as goal

pub returns : goal.returns
unfolding fault
returns c = record { outcome = refl; registers = refl }
