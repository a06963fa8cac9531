-- What digits give, and a line by its key.
use mathlib.Core.Path.{◌≡◌, refl, ◌∙◌}
use mathlib.Core.Bool.{Bool, true, false, false≢true, cond, not, ◌&&◌, and-false}
use mathlib.Core.List.{List, [], ◌∷◌, map}
use Prim.Native.Nat.{ℕ, ◌-◌}
use native.Mathlib.Omega.{arith}
use borrow.Author.Tests.{eq-eqb, ne_eqb, eqb-true, le-leb, leb-true}
use lib.Dec.{eqb, leb}
use lib.ListN.{length, drop, length-map}
use Rattle.std.proofs.lemmas.Bool.{and_parts}
use Rattle.std.specs.List.{list_all}
use Rattle.hours.specs.Schedules.{is_entry, all_entries}
use Rattle.grammar.specs.Grammar.{keyed}
use Rattle.grammar.proofs.Sizes.{keyed_either}
use Rattle.loading.specs.Loading.{is_period_digit, all_period_digits, periods_in}

-- The code tests each digit by itself.
pub digits_each : (l : List ℕ) → all_period_digits l ≡ list_all is_period_digit l
unfolding all_period_digits
digits_each [] = refl
digits_each (b ∷ l) = rw (digits_each l)

-- 96 digits of periods give these, and everything else gives none.
pub periods_other : (l : List ℕ) → (length l ≡ 96 → ⊥) → periods_in l ≡ []
unfolding periods_in
periods_other l h = rw (ne_eqb (length l) 96 h)

pub periods_are : (l : List ℕ) → length l ≡ 96 → all_period_digits l ≡ true → periods_in l ≡ map (λ b. b - 48) l
unfolding periods_in
periods_are l h e = rw (eq-eqb (length l) 96 h, e)

pub periods_bad : (l : List ℕ) → all_period_digits l ≡ false → periods_in l ≡ []
unfolding periods_in
periods_bad l e = rw (e, and-false (eqb (length l) 96))

pub periods_good : (l : List ℕ) → length l ≡ 96 → not (eqb (length (periods_in l)) 0) ≡ all_period_digits l
unfolding periods_in
periods_good l h = rw (eq-eqb (length l) 96 h) (by (all_period_digits l))
  where
    by : (t : Bool) → not (eqb (length (cond t (map (λ b. b - 48) l) [])) 0) ≡ t
    by true = rw (length-map l (λ b. b - 48), h)
    by false = refl

-- A digit of a period gives an entry of a schedule.
digit_entry : (b : ℕ) → is_period_digit b ≡ true → is_entry (b - 48) ≡ true
digit_entry b e =
    let both = and_parts (leb 49 b) (leb b 51) e in
    let low = leb-true 49 b both.0 in
    let high = leb-true b 51 both.1 in
    rw (le-leb 1 (b - 48) (omega arith), le-leb (b - 48) 3 (omega arith))

digits_entries : (l : List ℕ) → all_period_digits l ≡ true → all_entries (map (λ b. b - 48) l) ≡ true
unfolding all_period_digits all_entries
digits_entries [] e = refl
digits_entries (b ∷ l) e =
    let both = and_parts (is_period_digit b) (all_period_digits l) e in
    rw (digit_entry b both.0, digits_entries l both.1)

-- What a good line gives: 96 entries.
abbrev pub Row : List ℕ → Type 0
Row xs = not (eqb (length xs) 0) ≡ true → (length xs ≡ 96) × (all_entries xs ≡ true)

none_row : Row []
none_row e = absurd (false≢true e)

periods_row : (l : List ℕ) → Row (periods_in l)
unfolding periods_in
periods_row l = by (eqb (length l) 96) refl (all_period_digits l) refl
  where
    by : (t : Bool) → eqb (length l) 96 ≡ t → (u : Bool) → all_period_digits l ≡ u → Row (cond (t && u) (map (λ b. b - 48) l) [])
    by true p true q e = (length-map l (λ b. b - 48) ∙ eqb-true (length l) 96 p, digits_entries l q)
    by true p false q e = none_row e
    by false p u q e = none_row e

pub keyed_row : (key l : List ℕ) → Row (keyed key periods_in l)
keyed_row key l = keyed_either Row key periods_in l none_row (periods_row (drop (length key) l))
