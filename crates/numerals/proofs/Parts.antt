-- The parts between commas, one after the other, and the numbers that they are.
use mathlib.Core.Path.{◌≡◌, refl, sym, ap, ◌∙◌}
use mathlib.Core.Bool.{Bool, true, false, false≢true, cond, ◌&&◌}
use mathlib.Core.List.{List, [], ◌∷◌, ◌++◌, map, append_assoc}
use Prim.Native.Nat.{ℕ, zero, suc, ◌+◌, ◌≤◌, ◌<◌, min}
use native.Mathlib.Numerals.{add-one}
use native.Mathlib.Omega.{arith}
use borrow.Author.Tests.{ne_eqb, eqb-true, leb-true, leb-false, le-leb}
use lib.Dec.{eqb, leb}
use lib.ListN.{length, take, drop, length-map, length-append, length-drop}
use Rattle.text.specs.Text.{place_of}
use Rattle.text.specs.Splitting.{Whole, Split}
use Rattle.numerals.specs.Numerals.{value_of, is_number, on_first, parts_of, all_numbers, numbers_in, numbers_up_to}

pub on_first_count : (b : ℕ) (ps : List (List ℕ)) → length (on_first b ps) ≡ length ps
on_first_count b [] = refl
on_first_count b (p ∷ ps) = refl

-- There is at least one part.
pub parts_some : (l : List ℕ) → 1 ≤ length (parts_of l)
unfolding parts_of
parts_some [] = omega arith
parts_some (b ∷ l) = by (eqb b 44) (parts_some l)
  where
    by : (t : Bool) → 1 ≤ length (parts_of l) → 1 ≤ length (cond t ([] ∷ parts_of l) (on_first b (parts_of l)))
    by true h = omega arith
    by false h = omega (arith, on_first_count b (parts_of l))

-- Where there is no comma there is one part; else the first ends at the first comma.
pub parts_last : (l : List ℕ) → place_of 44 l ≡ length l → parts_of l ≡ l ∷ []
unfolding parts_of place_of
parts_last [] e = refl
parts_last (b ∷ l) e = by (eqb b 44) (parts_last l) e
  where
    by : (t : Bool) → (place_of 44 l ≡ length l → parts_of l ≡ l ∷ []) → cond t zero (suc (place_of 44 l)) ≡ suc (length l)
        → cond t ([] ∷ parts_of l) (on_first b (parts_of l)) ≡ (b ∷ l) ∷ []
    by true next e = absurd (omega arith)
    by false next e = rw (next (omega arith))

pub parts_more : (l : List ℕ) → place_of 44 l < length l → parts_of l ≡ take (place_of 44 l) l ∷ parts_of (drop (suc (place_of 44 l)) l)
unfolding parts_of place_of
parts_more [] h = absurd (omega arith)
parts_more (b ∷ l) h = by (eqb b 44) (parts_more l) h
  where
    by : (t : Bool) → (place_of 44 l < length l → parts_of l ≡ take (place_of 44 l) l ∷ parts_of (drop (suc (place_of 44 l)) l))
        → cond t zero (suc (place_of 44 l)) < suc (length l)
        → cond t ([] ∷ parts_of l) (on_first b (parts_of l))
        ≡ take (cond t zero (suc (place_of 44 l))) (b ∷ l) ∷ parts_of (drop (suc (cond t zero (suc (place_of 44 l)))) (b ∷ l))
    by true next h = refl
    by false next h = rw (next (omega arith))

-- What holds of none and of one number or more, up to so many.
pub up_to_either : (P : List ℕ → Type 0) (n : ℕ) (l : List ℕ) → P []
    → (length (parts_of l) ≤ n → all_numbers (parts_of l) ≡ true → P (map value_of (parts_of l)))
    → P (numbers_up_to n l)
unfolding numbers_up_to
up_to_either P n l none some = by (leb (length (parts_of l)) n) (all_numbers (parts_of l)) refl refl
  where
    by : (a b : Bool) → leb (length (parts_of l)) n ≡ a → all_numbers (parts_of l) ≡ b → P (cond (a && b) (map value_of (parts_of l)) [])
    by true true e f = some (leb-true _ _ e) f
    by true false e f = none
    by false b e f = none

-- How many numbers there are.
pub up_to_count : (n : ℕ) (l : List ℕ) → length (numbers_up_to n l) ≤ n
up_to_count n l =
    up_to_either (λ xs. length xs ≤ n) n l (omega arith) (λ few numbers. omega (arith, length-map (parts_of l) value_of))

-- Too many parts, or one that is no number.
pub up_to_many : (n : ℕ) (l : List ℕ) → n < length (parts_of l) → numbers_up_to n l ≡ []
up_to_many n l h = up_to_either (λ xs. xs ≡ []) n l refl (λ few numbers. absurd (omega arith))

pub up_to_bad : (n : ℕ) (l : List ℕ) → all_numbers (parts_of l) ≡ false → numbers_up_to n l ≡ []
up_to_bad n l h = up_to_either (λ xs. xs ≡ []) n l refl (λ few numbers. absurd (false≢true (sym h ∙ numbers)))

-- Numbers xs were read of a text, and a rest of it is left.
pub record Read (text xs rest : List ℕ) : Type 0 where
  pub count : length (parts_of text) ≡ length xs + length (parts_of rest)
  pub numbers : all_numbers (parts_of text) ≡ all_numbers (parts_of rest)
  pub values : map value_of (parts_of text) ≡ xs ++ map value_of (parts_of rest)
  pub within : length rest ≤ length text

pub read_first : (text : List ℕ) → Read text [] text
read_first text = record { count = omega arith; numbers = refl; values = refl; within = omega arith }

module _ {text xs rest : List ℕ} (r : Read text xs rest) where
  -- There is room for no more numbers.
  pub read_full : (n : ℕ) → length xs ≡ n → numbers_up_to n text ≡ []
  read_full n e = up_to_many n text (omega (arith, r.count, parts_some rest))

  -- What stands before a comma is no number, or one.
  module _ {number behind : List ℕ} (s : Split 44 rest number behind) where
    parts_are : parts_of rest ≡ number ∷ parts_of behind
    parts_are = rw (s.before, s.behind, add-one) (parts_more rest s.within)

    pub read_bad : (n : ℕ) → is_number number ≡ false → numbers_up_to n text ≡ []
    unfolding all_numbers
    read_bad n f = up_to_bad n text (r.numbers ∙ rw (parts_are, f))

    pub read_more : (v : ℕ) → is_number number ≡ true → v ≡ value_of number → Read text (xs ++ v ∷ []) behind
    unfolding all_numbers
    read_more v f is = record {
      count = r.count ∙ rw (parts_are, length-append) (omega arith);
      numbers = r.numbers ∙ rw (parts_are, f);
      values = r.values ∙ rw (parts_are, append_assoc, is);
      within = omega (arith, r.within, s.within, ap length s.behind, length-drop (place_of 44 rest + 1) rest);
    }

  -- Likewise where no comma is left.
  module _ (e : Whole 44 rest) where
    pub last_bad : (n : ℕ) → is_number rest ≡ false → numbers_up_to n text ≡ []
    unfolding all_numbers
    last_bad n f = up_to_bad n text (r.numbers ∙ rw (parts_last rest e, f))

    pub last_good : (n v : ℕ) → is_number rest ≡ true → v ≡ value_of rest → length xs < n → xs ++ v ∷ [] ≡ numbers_up_to n text
    unfolding all_numbers numbers_up_to
    last_good n v f is h =
        let one = parts_last rest e in
        let few : length (parts_of text) ≤ n = omega (arith, r.count, ap length one) in
        rw (le-leb _ _ few, r.numbers, r.values, one, f, is)

-- So many numbers are those of up to so many, where there are so many.
pub numbers_are : (n : ℕ) (l : List ℕ) → numbers_in n l ≡ cond (eqb (length (numbers_up_to n l)) n) (numbers_up_to n l) []
unfolding numbers_in numbers_up_to
numbers_are n l = by (eqb (length ps) n) (leb (length ps) n) (all_numbers ps) refl refl
  where
    ps : List (List ℕ)
    ps = parts_of l

    none : (t : Bool) → ◌≡◌ {A = List ℕ} [] (cond t [] [])
    none true = refl
    none false = refl

    by : (same few numbers : Bool) → eqb (length ps) n ≡ same → leb (length ps) n ≡ few
        → cond (same && numbers) (map value_of ps) []
        ≡ cond (eqb (length (cond (few && numbers) (map value_of ps) [])) n) (cond (few && numbers) (map value_of ps) []) []
    by true true true e f = rw (length-map ps value_of, e)
    by true true false e f = none (eqb 0 n)
    by true false numbers e f = absurd (omega (arith, eqb-true (length ps) n e, leb-false (length ps) n f))
    by false true true e f = rw (length-map ps value_of, e)
    by false true false e f = none (eqb 0 n)
    by false false numbers e f = none (eqb 0 n)

-- Likewise where there is room for m: none where there is no room for so many.
pub counted_are : (m n : ℕ) (l : List ℕ)
    → cond (leb n m) (numbers_in n l) [] ≡ cond (eqb (length (numbers_up_to (min n m) l)) n) (numbers_up_to (min n m) l) []
counted_are m n l = by (leb n m) refl
  where
    by : (t : Bool) → leb n m ≡ t
        → cond t (numbers_in n l) [] ≡ cond (eqb (length (numbers_up_to (min n m) l)) n) (numbers_up_to (min n m) l) []
    by true e =
        let all : min n m ≡ n = omega (arith, leb-true n m e) in
        rw all (numbers_are n l)
    by false e =
        let other : eqb (length (numbers_up_to (min n m) l)) n ≡ false = ne_eqb _ _ (λ f. omega (arith, leb-false n m e, up_to_count (min n m) l)) in
        rw other
