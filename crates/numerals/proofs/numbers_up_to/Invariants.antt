use mathlib.Core.Path.{◌≡◌}
use lib.ListN.{length}
use Rattle.numerals.proofs.Parts.{Read}
use Rattle.numerals.proofs.numbers_up_to.Given as goal

abbrev pub invariant-loop : goal.invariant-loop
invariant-loop g l = Read l.text l.numbers.items l.rest × (length l.numbers.items ≡ l.counter)
