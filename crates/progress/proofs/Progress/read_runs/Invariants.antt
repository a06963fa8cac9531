use mathlib.Core.Path.{◌≡◌}
use lib.ListN.{length}
use Rattle.progress.specs.Expected.{number_of}
use Rattle.progress.specs.Progressing.{state_of, registers_held}
use Rattle.progress.proofs.RunLines.{Running}
use Rattle.progress.proofs.Progress.read_runs.Given as goal

abbrev pub invariant-loop-run : goal.invariant-loop-run
invariant-loop-run l = (number_of l.self.expected ≡ 16)
    × Running (state_of l.initial.self) (registers_held l.initial.self) l.input l.rest (state_of l.self) (registers_held l.self)

abbrev pub decreases-loop-run : goal.decreases-loop-run
decreases-loop-run l = length l.rest
