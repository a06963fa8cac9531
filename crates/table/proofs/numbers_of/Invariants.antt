use Rattle.std.proofs.Common.{◌≡◌, length, map}
use Rattle.table.specs.Numbers.{first_of}
use Rattle.table.proofs.numbers_of.Given as goal

-- The values so far are stored, and 0 behind them, where the next place is.
abbrev pub invariant-loop-place : goal.invariant-loop-place
invariant-loop-place l = record { place : l.place-iterator.count ≡ length l.yielded; stored : l.numbers ≡ first_of 33 (map (λ p. p.1) l.yielded) }
