-- What is readable is short and gives as many numbers as are asked for: numbers and months.
use mathlib.Core.Path.{◌≡◌, refl}
use mathlib.Core.Bool.{Bool, true, false, cond, ◌&&◌}
use mathlib.Core.List.{List, [], ◌∷◌}
use mathlib.Core.Logic.{◌⊎◌, inl, inr}
use Prim.Native.Nat.{ℕ, ◌+◌, ◌-◌, ◌*◌, ◌^◌, ◌≤◌, ◌<◌}
use native.Mathlib.Omega.{arith}
use borrow.Author.Tests.{eqb-true, leb-true}
use lib.Dec.{eqb, leb, ltb}
use lib.ListN.{length}
use Rattle.std.proofs.lemmas.Bool.{and_parts}
use Rattle.numerals.specs.Numerals.{all_digits, value_of, is_number, number_in, is_month, month_in}
use Rattle.numerals.specs.Numerals.{on_first, parts_of, all_numbers, numbers_in, numbers_up_to}
use Rattle.numerals.proofs.Months.{month_length_lem}
use Rattle.numerals.proofs.Parts.{parts_some, up_to_either, up_to_count, numbers_are}

abbrev pub Reader : Type 0
Reader = List ℕ → List ℕ

-- Nothing is readable that is longer than n bytes; there are at most n numbers.
abbrev pub Short : ℕ → Reader → Type 0
Short n read = (l : List ℕ) → n < length l → read l ≡ []

abbrev pub Few : ℕ → Reader → Type 0
Few n read = (l : List ℕ) → length (read l) ≤ n

-- One number or none.
pub one_few : (t : Bool) (x : ℕ) → length (cond t (x ∷ []) []) ≤ 1
one_few true x = omega arith
one_few false x = omega arith

-- A number.
pub number_few : Few 1 number_in
unfolding number_in
number_few l = one_few (is_number l) (value_of l)

-- A month.
pub month_short : Short 7 month_in
month_short l h = month_length_lem l (λ e. omega arith)

pub month_few : Few 1 month_in
unfolding month_in
month_few l = one_few (is_month l) _

-- A number has at most ten digits.
number_digits : (l : List ℕ) → is_number l ≡ true → length l ≤ 10
unfolding is_number
number_digits l e =
    let (e, _) = and_parts (leb 1 (length l) && leb (length l) 10 && all_digits l) (ltb (value_of l) (2 ^ 32)) e in
    let (e, _) = and_parts (leb 1 (length l) && leb (length l) 10) (all_digits l) e in
    leb-true (length l) 10 (and_parts (leb 1 (length l)) (leb (length l) 10) e).1

-- Numbers with commas between them: the bytes of the parts and one more for each are those of the text and one more.
abbrev spread : List (List ℕ) → ℕ
spread [] = 0
spread (p ∷ ps) = length p + 1 + spread ps

on_first_spread : (b : ℕ) (ps : List (List ℕ)) → 1 ≤ length ps → spread (on_first b ps) ≡ spread ps + 1
on_first_spread b [] h = absurd (omega arith)
on_first_spread b (p ∷ ps) h = omega arith

parts_spread : (l : List ℕ) → spread (parts_of l) ≡ length l + 1
unfolding parts_of
parts_spread [] = refl
parts_spread (b ∷ l) = by (eqb b 44) (parts_spread l)
  where
    by : (t : Bool) → spread (parts_of l) ≡ length l + 1 → spread (cond t ([] ∷ parts_of l) (on_first b (parts_of l))) ≡ length (b ∷ l) + 1
    by true e = omega arith
    by false e = omega (arith, on_first_spread b (parts_of l) (parts_some l))

all_spread : (ps : List (List ℕ)) → all_numbers ps ≡ true → spread ps ≤ 11 * length ps
unfolding all_numbers
all_spread [] e = omega arith
all_spread (p ∷ ps) e =
    let (here, next) = and_parts (is_number p) (all_numbers ps) e in
    omega (arith, number_digits p here, all_spread ps next)

pub up_to_short : (n : ℕ) → Short (11 * n - 1) (numbers_up_to n)
up_to_short n l h =
    up_to_either (λ xs. xs ≡ []) n l refl (λ few numbers. absurd (omega (arith, parts_spread l, all_spread (parts_of l) numbers)))

pub up_to_few : (n : ℕ) → Few n (numbers_up_to n)
up_to_few = up_to_count

-- What holds of none and of as many numbers as are asked for.
numbers_either : (P : List ℕ → Type 0) (n : ℕ) (l : List ℕ) → P []
    → (length (numbers_up_to n l) ≡ n → P (numbers_up_to n l)) → P (numbers_in n l)
numbers_either P n l none some = rw (numbers_are n l) (by (eqb (length (numbers_up_to n l)) n) refl)
  where
    by : (t : Bool) → eqb (length (numbers_up_to n l)) n ≡ t → P (cond t (numbers_up_to n l) [])
    by true e = some (eqb-true _ _ e)
    by false e = none

pub numbers_short : (n : ℕ) → Short (11 * n - 1) (numbers_in n)
numbers_short n l h = numbers_either (λ xs. xs ≡ []) n l refl (λ all. up_to_short n l h)

pub numbers_all : (n : ℕ) (l : List ℕ) → (length (numbers_in n l) ≡ 0) ⊎ (length (numbers_in n l) ≡ n)
numbers_all n l = numbers_either (λ xs. (length xs ≡ 0) ⊎ (length xs ≡ n)) n l (inl refl) (λ all. inr all)
