-- The lines of a text one after the other, and the status after them.
use mathlib.Core.Path.{◌≡◌, refl, sym, ◌∙◌, ap}
use mathlib.Core.Bool.{Bool, true, false, false≢true, cond, not, ◌&&◌}
use mathlib.Core.List.{List, [], ◌∷◌, ◌++◌}
use Prim.Native.Nat.{ℕ, zero, suc, ◌+◌, ◌≤◌, ◌<◌, min}
use native.Mathlib.Numerals.{add-one}
use native.Mathlib.Omega.{arith}
use borrow.Author.Tests.{eqb-true, ne_eqb, le-leb, leb-true, leb-false}
use lib.Dec.{eqb, leb}
use lib.ListN.{length, get_or, take, drop, length-append, drop_of_length-le}
use lib.Seq.{take_all, take-suc, take-length, drop-length, take-append_seam, drop-append_seam}
use Rattle.text.specs.Text.{bytes_of, place_of, lines_from}
use Rattle.text.proofs.Laws.{first_line}
use Rattle.lines.specs.Statement.{statement_of}
use Rattle.std.specs.List.{IsFirstMatchOrLen}
use Rattle.statement.specs.Status.{begins_as, number_place, is_zero, status_after, status_over, status_from, is_end, Ends}
use Rattle.statement.proofs.Texts.{ends_line}

-- The lines of a text that ends with a newline, and then those of another.
lines_cut : (l text more : List ℕ) → ends_line (eqb (length l) 0) text ≡ true → lines_from l (text ++ more) ≡ lines_from l text ++ lines_from [] more
unfolding lines_from ends_line
lines_cut [] [] more h = refl
lines_cut (a ∷ l) [] more h = let none = eqb-true (length (a ∷ l)) 0 h in absurd (omega arith)
lines_cut l (b ∷ text) more h = by (eqb b 10) refl (lines_cut [] text more) (lines_cut (l ++ b ∷ []) text more)
  where
    by : (t : Bool) → eqb b 10 ≡ t → (ends_line true text ≡ true → lines_from [] (text ++ more) ≡ lines_from [] text ++ lines_from [] more)
        → (ends_line (eqb (length (l ++ b ∷ [])) 0) text ≡ true
        → lines_from (l ++ b ∷ []) (text ++ more) ≡ lines_from (l ++ b ∷ []) text ++ lines_from [] more)
        → cond t (l ∷ lines_from [] (text ++ more)) (lines_from (l ++ b ∷ []) (text ++ more))
        ≡ cond t (l ∷ lines_from [] text) (lines_from (l ++ b ∷ []) text) ++ lines_from [] more
    by true e new same = ap (λ (ls : List (List ℕ)). l ∷ ls) (new (rw e at h))
    by false e new same =
        let some : length (l ++ b ∷ []) ≡ 0 → ⊥ = λ f. omega (arith, length-append l (b ∷ []), f) in
        same (rw (ne_eqb (length (l ++ b ∷ [])) 0 some) (rw e at h))

over_append : (s : ℕ) (ls ms : List (List ℕ)) → status_over s (ls ++ ms) ≡ status_over (status_over s ls) ms
unfolding status_over
over_append s [] ms = refl
over_append s (l ∷ ls) ms = over_append (status_after s l) ls ms

-- Likewise the status.
pub status_cut : (s : ℕ) (text more : List ℕ) → ends_line true text ≡ true → status_from s (text ++ more) ≡ status_from (status_from s text) more
unfolding status_from
status_cut s text more h = ap (status_over s) (lines_cut [] text more h) ∙ over_append s (lines_from [] text) (lines_from [] more)

pub status_none : (s : ℕ) → status_from s [] ≡ s
unfolding status_from status_over lines_from
status_none s = refl

pub status_empty : (s : ℕ) (text : List ℕ) → length text ≡ 0 → status_from s text ≡ s
status_empty s [] e = status_none s
status_empty s (b ∷ text) e = absurd (omega arith)

-- Each status of printed lines is one of three.
after_within : (s : ℕ) (line : List ℕ) → s ≤ 2 → status_after s line ≤ 2
unfolding status_after
after_within s line h = by (begins_as line (bytes_of "line=")) (eqb s 0 && not (is_zero line))
  where
    by : (t u : Bool) → cond t 2 (cond u 1 s) ≤ 2
    by true u = omega arith
    by false true = omega arith
    by false false = h

over_within : (s : ℕ) (ls : List (List ℕ)) → s ≤ 2 → status_over s ls ≤ 2
unfolding status_over
over_within s [] h = h
over_within s (l ∷ ls) h = over_within (status_after s l) ls (after_within s l h)

-- So what the program ends with is known.
pub ends_known : {r : ℕ} → Ends r → is_end r ≡ true
unfolding status_from
ends_known {r} (Ends.told input e) = rw (le-leb r 2 (omega (arith, e, over_within 0 (lines_from [] (statement_of input)) (omega arith))))
ends_known {r} (Ends.unread e) = rw e
ends_known {r} (Ends.unwritten e) = rw e

-- A newline behind a line changes nothing that is looked at.
byte_same : (line : List ℕ) (place b : ℕ) → (b ≡ 0 → ⊥) → (b ≡ 10 → ⊥) → eqb (get_or (line ++ 10 ∷ []) place 0) b ≡ eqb (get_or line place 0) b
byte_same [] zero b h k = ne_eqb 10 b (λ e. k (sym e)) ∙ sym (ne_eqb 0 b (λ e. h (sym e)))
byte_same [] (suc place) b h k = refl
byte_same (a ∷ line) zero b h k = refl
byte_same (a ∷ line) (suc place) b h k = byte_same line place b h k

after_newline : (s : ℕ) (line : List ℕ) → status_after s (line ++ 10 ∷ []) ≡ status_after s line
unfolding status_after
after_newline s line =
    rw (
      byte_same line 0 108 (λ e. omega arith) (λ e. omega arith),
      byte_same line 0 111 (λ e. omega arith) (λ e. omega arith),
      byte_same line (number_place line) 48 (λ e. omega arith) (λ e. omega arith),
    )

-- The place of the first newline, or the length.
abbrev IsPlace : List ℕ → ℕ → Type 0
IsPlace = IsFirstMatchOrLen (λ b. eqb b 10)

place_is : (text : List ℕ) (i : ℕ) → IsPlace text i → place_of 10 text ≡ i
unfolding place_of
place_is [] zero h = refl
place_is [] (suc i) h = absurd (false≢true (sym (h.0 0 10 (omega arith) (omega arith))))
place_is (b ∷ text) zero h = rw (h.1 (omega arith) 0)
place_is (b ∷ text) (suc i) h =
    rw (h.0 0 0 (omega arith) (omega arith))
    (ap suc (place_is text i (λ k d low high. h.0 (suc k) d (omega arith) (omega arith), λ inside d. h.1 (omega arith) d)))

-- A line and the rest of its text: it is the first one, with its newline where it has one.
pub status_line : (s : ℕ) (text line rest : List ℕ) (i : ℕ) → text ≡ line ++ rest → length line ≡ min (i + 1) (length text) → 0 < length text
    → IsPlace text i → status_from s text ≡ status_from (status_after s line) rest
unfolding status_from status_over
status_line s text line rest i parts long some place =
    rw (first_line [] text (omega arith), place_is text i place) (by (leb (i + 1) (length text)) refl)
  where
    front : take (length line) text ≡ line
    front = rw (parts, take-append_seam line rest)

    behind : drop (length line) text ≡ rest
    behind = rw (parts, drop-append_seam line rest)

    by : (t : Bool) → leb (i + 1) (length text) ≡ t → status_from (status_after s (take i text)) (drop (i + 1) text) ≡ status_from (status_after s line) rest
    by true e =
        let inside : i < length text = omega (arith, leb-true _ _ e) in
        let all : length line ≡ i + 1 = omega arith in
        let ends : get_or text i 0 ≡ 10 = eqb-true _ _ (place.1 inside 0) in
        let same : line ≡ take i text ++ 10 ∷ [] = sym front ∙ rw (all, add-one i, take-suc text i 0 inside, ends) in
        let next : drop (i + 1) text ≡ rest = rw all at behind in
        rw (next, same, after_newline s (take i text))
    by false e =
        let outside : length text < i + 1 = leb-false _ _ e in
        let all : length line ≡ length text = omega arith in
        let same : take i text ≡ line = take_all i text (omega arith) ∙ sym (take-length text) ∙ rw all at front in
        let next : drop (i + 1) text ≡ rest = drop_of_length-le text (omega arith) ∙ sym (drop-length text) ∙ rw all at behind in
        rw (next, same)
