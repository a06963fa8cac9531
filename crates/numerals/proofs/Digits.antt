-- A number, digit after digit.
use mathlib.Core.Path.{◌≡◌, refl}
use mathlib.Core.Bool.{Bool, true, false, cond, ◌&&◌, and-false}
use mathlib.Core.List.{List, [], ◌∷◌}
use Prim.Native.Nat.{ℕ, ◌+◌, ◌-◌, ◌*◌, ◌^◌, ◌≤◌, ◌<◌}
use native.Mathlib.Numerals.{add-one}
use native.Mathlib.Omega.{arith}
use borrow.Author.Tests.{lt-ltb, le-ltb, le-leb, lt-leb}
use lib.ListN.{length, get_or, drop, drop_of_length-le}
use lib.Seq.{drop-cons}
use Rattle.numerals.specs.Numerals.{is_digit, all_digits, value_after, value_of, is_number, number_in}

module _ (i : ℕ) (l : List ℕ) where
  -- The byte at a place and the rest decide.
  pub digits_at : i < length l → all_digits (drop i l) ≡ (is_digit (get_or l i 0) && all_digits (drop (i + 1) l))
  unfolding all_digits
  digits_at h = rw (drop-cons l i 0 h, add-one i)

  -- Nothing is left.
  pub digits_end : length l ≤ i → all_digits (drop i l) ≡ true
  unfolding all_digits
  digits_end h = rw (drop_of_length-le l h)

  pub value_next : (v : ℕ) → i < length l → value_after v (drop i l) ≡ value_after (v * 10 + (get_or l i 0 - 48)) (drop (i + 1) l)
  unfolding value_after
  value_next v h = rw (drop-cons l i 0 h, add-one i)

  pub value_end : (v : ℕ) → length l ≤ i → value_after v (drop i l) ≡ v
  unfolding value_after
  value_end v h = rw (drop_of_length-le l h)

-- More digits don't make a value smaller.
pub value_grows : (v : ℕ) (l : List ℕ) → v ≤ value_after v l
unfolding value_after
value_grows v [] = omega arith
value_grows v (b ∷ l) = omega (arith, value_grows (v * 10 + (b - 48)) l)

-- What is a number and what isn't.
module _ (l : List ℕ) where
  not-number : is_number l ≡ false → number_in l ≡ []
  unfolding number_in
  not-number e = rw e

  pub number_empty : length l ≡ 0 → number_in l ≡ []
  unfolding is_number
  number_empty e = not-number (rw e)

  pub number_long : 10 < length l → number_in l ≡ []
  unfolding is_number
  number_long h =
      let p : 1 ≤ length l = omega arith in
      not-number (simp (le-leb _ _ p, lt-leb _ _ h))

  pub number_no_digits : all_digits l ≡ false → number_in l ≡ []
  unfolding is_number
  number_no_digits e = not-number (simp (e, and-false))

  pub number_large : 2 ^ 32 ≤ value_of l → number_in l ≡ []
  unfolding is_number
  number_large h = not-number (simp (le-ltb _ _ h, and-false))

  pub number_is : 1 ≤ length l → length l ≤ 10 → all_digits l ≡ true → value_of l < 2 ^ 32 → number_in l ≡ value_of l ∷ []
  unfolding is_number number_in
  number_is p q d h = simp (le-leb _ _ p, le-leb _ _ q, d, lt-ltb _ _ h)

  -- What was read of a text tells whether it is a number, and its value.
  pub read_none : ◌≡◌ {A = List ℕ} [] (number_in l) → is_number l ≡ false
  unfolding number_in
  read_none = by (is_number l)
    where
      by : (t : Bool) → ◌≡◌ {A = List ℕ} [] (cond t (value_of l ∷ []) []) → t ≡ false
      by true e = cc
      by false e = refl

  pub read_some : (v : ℕ) → v ∷ [] ≡ number_in l → (is_number l ≡ true) × (v ≡ value_of l)
  unfolding number_in
  read_some v = by (is_number l)
    where
      by : (t : Bool) → v ∷ [] ≡ cond t (value_of l ∷ []) [] → (t ≡ true) × (v ≡ value_of l)
      by true e = (refl, cc)
      by false e = cc
