-- `numerals::numbers_in` reads up to so many numbers and asks whether there are so many.
use Rattle.std.proofs.Common.{◌≡◌, ℕ, Bool, true, false, cond, eqb, List, [], length, refl}
use Rattle.std.specs.Bool.{then_some}
use Rattle.arrayvec.specs.ArrayVec.{ArrayVec}
use Rattle.numerals.specs.Reading.{items_of}
use Rattle.numerals.proofs.Parts.{counted_are}
use Rattle.numerals.proofs.numbers_in.Goals as goal

none_are : (n : ℕ) (xs : List ℕ) → ◌≡◌ {A = List ℕ} [] xs → ◌≡◌ {A = List ℕ} [] (cond (eqb (length xs) n) xs [])
none_are n xs e = rw (← e) (by (eqb 0 n))
  where
    by : (t : Bool) → ◌≡◌ {A = List ℕ} [] (cond t [] [])
    by true = refl
    by false = refl

all_are : (n : ℕ) (v : ArrayVec ℕ) (xs : List ℕ) → v.items ≡ xs → items_of (then_some (eqb (length v.items) n) v) ≡ cond (eqb (length xs) n) xs []
all_are n v xs e = rw (← e) (by (eqb (length v.items) n))
  where
    by : (t : Bool) → items_of (then_some t v) ≡ cond t v.items []
    by true = refl
    by false = refl

pub returns-in_err-numbers-clause-value : goal.returns-in_err-numbers-clause-value
returns-in_err-numbers-clause-value g c = rw (c.from_residual.ensures, counted_are g.row.N c.args.count) (none_are _ _ c.in_err-numbers.ensures.value)

pub returns-clause-value : goal.returns-clause-value
returns-clause-value g c =
    rw (c.then_some.ensures, c.len.ensures.value, counted_are g.row.N c.args.count) (all_are _ _ _ c.in_ok-numbers.ensures.value)
