use Rattle.std.proofs.Common.{◌≡◌, ℕ, ◌*◌, ◌<◌, get_or, length}
use Rattle.hours.specs.Schedules.{word_from}
use Rattle.hours.proofs.words_of.Given as goal

-- The words before the place are those of their entries.
abbrev pub invariant-loop-w : goal.invariant-loop-w
invariant-loop-w l = (length l.words ≡ 12) × ((k : ℕ) → k < l.w → get_or l.words k 0 ≡ word_from l.schedule (32 * k) 32)
