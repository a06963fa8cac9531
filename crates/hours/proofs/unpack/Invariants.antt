use Rattle.std.proofs.Common.{◌≡◌, ℕ, ◌/◌, ◌%◌, ◌<◌, get_or}
use Rattle.hours.specs.Packing.{byte_at, entry_of}
use Rattle.hours.proofs.unpack.Given as goal

-- The entries before the place are those of their bytes.
abbrev pub invariant-loop-place : goal.invariant-loop-place
invariant-loop-place l = (k : ℕ) → k < l.place → get_or l.entry-items k 0 ≡ entry_of (byte_at l.words (k / 4)) (k % 4)
