-- What a session takes line by line.
use mathlib.Core.Path.{◌≡◌, refl, sym, ◌∙◌, ap}
use mathlib.Core.Bool.{Bool, true, false, cond}
use mathlib.Core.List.{List, [], ◌∷◌, ◌++◌, append_assoc, append-nil}
use Prim.Native.Nat.{ℕ, zero, suc, ◌+◌, ◌-◌, ◌≤◌, ◌<◌}
use native.Mathlib.Nat.{suc-add, sub-zero}
use native.Mathlib.Omega.{arith}
use borrow.Author.Tests.{le-leb, lt-leb, eqb-true}
use lib.Dec.{eqb}
use lib.ListN.{length, take, drop, length-take}
use lib.Seq.{take_all}
use Rattle.text.specs.Text.{place_of}
use Rattle.lines.specs.Feeding.{kept_bytes, SoFar, after_byte, byte_text, after, printed, taken_of}
use Rattle.session.specs.Taking.{line_bytes}
use Rattle.lines.proofs.Lengths.{text_fits}
use Rattle.lines.proofs.Streams.{newline_text, other_state, other_text, kept_again}

-- The bytes of a line end with the first newline, or with the last byte.
pub bytes_all : (l : List ℕ) → place_of 10 l ≡ length l → line_bytes l ≡ length l
unfolding place_of line_bytes
bytes_all [] h = refl
bytes_all (b ∷ l) h = by (eqb b 10) h (bytes_all l)
  where
    by : (t : Bool) → cond t zero (suc (place_of 10 l)) ≡ length (b ∷ l) → (place_of 10 l ≡ length l → line_bytes l ≡ length l)
        → suc (cond t zero (line_bytes l)) ≡ length (b ∷ l)
    by true h more = absurd (omega arith)
    by false h more = ap suc (more (omega arith))

pub bytes_place : (l : List ℕ) → place_of 10 l < length l → line_bytes l ≡ place_of 10 l + 1
unfolding place_of line_bytes
bytes_place [] h = absurd (omega arith)
bytes_place (b ∷ l) h = by (eqb b 10) h (bytes_place l)
  where
    by : (t : Bool) → cond t zero (suc (place_of 10 l)) < length (b ∷ l) → (place_of 10 l < length l → line_bytes l ≡ place_of 10 l + 1)
        → suc (cond t zero (line_bytes l)) ≡ cond t zero (suc (place_of 10 l)) + 1
    by true h more = omega arith
    by false h more = omega (arith, more (omega arith))

pub bytes_some : (l : List ℕ) → 0 < length l → 0 < line_bytes l
unfolding line_bytes
bytes_some [] h = absurd (omega arith)
bytes_some (b ∷ l) h = omega arith

pub bytes_within : (l : List ℕ) → line_bytes l ≤ length l
unfolding line_bytes
bytes_within [] = omega arith
bytes_within (b ∷ l) = by (eqb b 10) (bytes_within l)
  where
    by : (t : Bool) → line_bytes l ≤ length l → suc (cond t zero (line_bytes l)) ≤ length (b ∷ l)
    by true h = omega arith
    by false h = omega arith

-- The newline itself.
pub newline_last : (l : List ℕ) → place_of 10 l < length l → take (place_of 10 l + 1) l ≡ take (place_of 10 l) l ++ 10 ∷ []
unfolding place_of
newline_last [] h = absurd (omega arith)
newline_last (b ∷ l) h = by (eqb b 10) refl h (newline_last l)
  where
    by : (t : Bool) → eqb b 10 ≡ t → cond t zero (suc (place_of 10 l)) < length (b ∷ l)
        → (place_of 10 l < length l → take (place_of 10 l + 1) l ≡ take (place_of 10 l) l ++ 10 ∷ [])
        → take (cond t zero (suc (place_of 10 l)) + 1) (b ∷ l) ≡ take (cond t zero (suc (place_of 10 l))) (b ∷ l) ++ 10 ∷ []
    by true e h more = rw (eqb-true b 10 e)
    by false e h more = rw suc-add (ap (λ (r : List ℕ). b ∷ r) (more (omega arith)))

-- Bytes before it are kept, and print nothing.
pub front_text : (x : SoFar) (l : List ℕ) → printed x (take (place_of 10 l) l) ≡ []
unfolding place_of printed
front_text x [] = refl
front_text x (b ∷ l) = by (eqb b 10) refl (front_text (after_byte x b) l)
  where
    by : (t : Bool) → eqb b 10 ≡ t → printed (after_byte x b) (take (place_of 10 l) l) ≡ []
        → printed x (take (cond t zero (suc (place_of 10 l))) (b ∷ l)) ≡ []
    by true e more = refl
    by false e more = rw (other_text x b e) more

-- At most so many bytes are kept.
abbrev kept : SoFar → List ℕ → SoFar
kept x l = record { line = take kept_bytes (x.line ++ l); state = x.state }

kept_none : (x : SoFar) → length x.line ≤ kept_bytes → x ≡ kept x []
kept_none x h = sym (rw (append-nil x.line, take_all kept_bytes x.line h))

pub front_state : (x : SoFar) (l : List ℕ) → length x.line ≤ kept_bytes
    → after x (take (place_of 10 l) l) ≡ record { line = take kept_bytes (x.line ++ take (place_of 10 l) l); state = x.state }
unfolding place_of after
front_state x [] h = kept_none x h
front_state x (b ∷ l) h = by (eqb b 10) refl
    (front_state (kept x (b ∷ [])) l (omega (arith, length-take kept_bytes (x.line ++ b ∷ []))))
  where
    by : (t : Bool) → eqb b 10 ≡ t
        → after (kept x (b ∷ [])) (take (place_of 10 l) l) ≡ kept (kept x (b ∷ [])) (take (place_of 10 l) l)
        → after x (take (cond t zero (suc (place_of 10 l))) (b ∷ l)) ≡ kept x (take (cond t zero (suc (place_of 10 l))) (b ∷ l))
    by true e more = kept_none x h
    by false e more =
        ap (λ (y : SoFar). after y (take (place_of 10 l) l)) (other_state x b e)
        ∙ more ∙ rw (kept_again kept_bytes (x.line ++ b ∷ []) (take (place_of 10 l) l), append_assoc)

-- One line of the input is taken, and the rest of it from there on.
pub line_taken : (room : ℕ) (x : SoFar) (l : List ℕ) → 1024 ≤ room
    → taken_of room x l
    ≡ line_bytes l + taken_of (room - length (printed x (take (line_bytes l) l))) (after x (take (line_bytes l) l)) (drop (line_bytes l) l)
unfolding taken_of line_bytes printed after
line_taken room x [] h = refl
line_taken room x (b ∷ l) h = by (eqb b 10) refl (line_taken room (after_byte x b) l h)
  where
    by : (t : Bool) → eqb b 10 ≡ t
        → taken_of room (after_byte x b) l
        ≡ line_bytes l
        + taken_of (room - length (printed (after_byte x b) (take (line_bytes l) l))) (after (after_byte x b) (take (line_bytes l) l)) (drop (line_bytes l) l)
        → taken_of room x (b ∷ l)
        ≡ suc (cond t zero (line_bytes l))
        + taken_of (room - length (printed x (take (suc (cond t zero (line_bytes l))) (b ∷ l))))
        (after x (take (suc (cond t zero (line_bytes l))) (b ∷ l))) (drop (suc (cond t zero (line_bytes l))) (b ∷ l))
    by true e more = rw (le-leb 1024 room h, append-nil (byte_text x b)) (omega arith)
    by false e more = rw (le-leb 1024 room h, other_text x b e, sub-zero room) (omega arith)

-- Its text fits.
pub line_text_lem : (x : SoFar) (l : List ℕ) → length (printed x (take (line_bytes l) l)) ≤ 1024
unfolding line_bytes printed
line_text_lem x [] = omega arith
line_text_lem x (b ∷ l) = by (eqb b 10) refl (line_text_lem (after_byte x b) l)
  where
    by : (t : Bool) → eqb b 10 ≡ t → length (printed (after_byte x b) (take (line_bytes l) l)) ≤ 1024
        → length (printed x (take (suc (cond t zero (line_bytes l))) (b ∷ l))) ≤ 1024
    by true e more = rw (newline_text x b e, append-nil) (text_fits x.line x.state)
    by false e more = rw (other_text x b e) more

-- Without room nothing is.
pub none_taken : (room : ℕ) (x : SoFar) (l : List ℕ) → room < 1024 → taken_of room x l ≡ 0
unfolding taken_of
none_taken room x [] h = refl
none_taken room x (b ∷ l) h = rw (lt-leb 1024 room h)
