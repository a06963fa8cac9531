-- `progress::Progress::count` changes the number alone.
use mathlib.Core.Path.{refl}
use Rattle.lines.specs.Statement.{counted}
use Rattle.progress.proofs.Progress.count.Goals as goal

pub returns : goal.returns
unfolding counted
returns c = record { state = rw c.next_line-self.ensures; registers = refl }
