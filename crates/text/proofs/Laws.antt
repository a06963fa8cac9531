-- Where a byte first stands, and the lines of a text.
use mathlib.Core.Path.{◌≡◌, refl, ◌∙◌, ap}
use mathlib.Core.Bool.{Bool, cond, true, false}
use mathlib.Core.List.{List, [], ◌∷◌, ◌++◌, append_assoc, append-nil}
use Prim.Native.Nat.{ℕ, zero, suc, ◌+◌, ◌-◌, ◌≤◌, ◌<◌}
use native.Mathlib.Nat.{suc-add}
use native.Mathlib.Omega.{arith}
use borrow.Author.Tests.{ne_eqb}
use lib.Dec.{eqb}
use lib.ListN.{length, take, drop, length-append, length-drop, drop_of_length-le}
use lib.Seq.{take-length, take-append_seam, drop-append-add}
use Rattle.std.specs.List.{position_or_len}
use Rattle.std.proofs.lemmas.List.Recursion.{is_position_or_len}
use Rattle.text.specs.Text.{place_of, lines_from}
use Rattle.std.proofs.lemmas.List.{take_rest}

-- It is std's first place, or the length.
pub place_is : (b : ℕ) (l : List ℕ) → place_of b l ≡ position_or_len (λ x. eqb x b) l
unfolding place_of
place_is b = is_position_or_len (place_of b) (λ x. eqb x b) refl (λ x xs. let next : 1 + place_of b xs ≡ suc (place_of b xs) = omega arith in rw next)

-- It stands inside, or nowhere.
pub place_within : (b : ℕ) (l : List ℕ) → place_of b l ≤ length l
unfolding place_of
place_within b [] = omega arith
place_within b (x ∷ l) = by (eqb x b) (place_within b l)
  where
    by : (t : Bool) → place_of b l ≤ length l → cond t zero (suc (place_of b l)) ≤ suc (length l)
    by true h = omega arith
    by false h = omega arith

-- Likewise where it is looked for from a place on.
pub place_from : (b i : ℕ) (l : List ℕ) {found : ℕ} → i ≤ length l → found ≡ place_of b (take (length l - i) (drop i l)) → i + found ≤ length l
place_from b i l h e = omega (arith, e, ap (place_of b) (take_rest l i), place_within b (drop i l), length-drop i l)

-- The first line of a text that has one, and those behind it.
pub first_line : (l text : List ℕ) → 0 < length l + length text
    → lines_from l text ≡ (l ++ take (place_of 10 text) text) ∷ lines_from [] (drop (place_of 10 text + 1) text)
unfolding lines_from place_of
first_line l [] h = rw (ne_eqb (length l) 0 (λ e. omega arith), append-nil)
first_line l (b ∷ text) h = by (eqb b 10) (first_line (l ++ b ∷ []) text (omega (arith, length-append l (b ∷ []))))
  where
    by : (t : Bool) → lines_from (l ++ b ∷ []) text ≡ ((l ++ b ∷ []) ++ take (place_of 10 text) text) ∷ lines_from [] (drop (place_of 10 text + 1) text)
        → cond t (l ∷ lines_from [] text) (lines_from (l ++ b ∷ []) text)
        ≡ (l ++ take (cond t zero (suc (place_of 10 text))) (b ∷ text)) ∷ lines_from [] (drop (cond t zero (suc (place_of 10 text)) + 1) (b ∷ text))
    by true same = rw append-nil
    by false same =
        rw (suc-add (place_of 10 text) 1)
        (same ∙ ap (λ (x : List ℕ). x ∷ lines_from [] (drop (place_of 10 text + 1) text)) (append_assoc l (b ∷ []) (take (place_of 10 text) text)))

-- A text without a newline in it: the place of one is its end.
abbrev pub Plain : List ℕ → Type 0
Plain l = place_of 10 l ≡ length l

pub plain_append : (a b : List ℕ) → Plain a → place_of 10 (a ++ b) ≡ length a + place_of 10 b
unfolding place_of
plain_append [] b e = omega arith
plain_append (x ∷ a) b e = by (eqb x 10) (plain_append a b) e
  where
    by : (t : Bool) → (Plain a → place_of 10 (a ++ b) ≡ length a + place_of 10 b) → cond t zero (suc (place_of 10 a)) ≡ suc (length a)
        → cond t zero (suc (place_of 10 (a ++ b))) ≡ suc (length a) + place_of 10 b
    by true rest e = absurd (omega (arith, e))
    by false rest e = omega (arith, rest (omega (arith, e)))

-- It is the first line where a newline follows, and the last where nothing does.
pub line_first : (l rest : List ℕ) → Plain l → lines_from [] (l ++ 10 ∷ rest) ≡ l ∷ lines_from [] rest
unfolding place_of
line_first l rest h =
    let place : place_of 10 (l ++ 10 ∷ rest) ≡ length l = plain_append l (10 ∷ rest) h ∙ omega arith in
    first_line [] (l ++ 10 ∷ rest) (omega (arith, length-append l (10 ∷ rest))) ∙ rw (place, take-append_seam, drop-append-add)

pub line_last : (l : List ℕ) → Plain l → 0 < length l → lines_from [] l ≡ l ∷ []
unfolding lines_from
line_last l h k = first_line [] l (omega arith) ∙ rw (h, take-length, drop_of_length-le l {i = length l + 1} (omega arith))
