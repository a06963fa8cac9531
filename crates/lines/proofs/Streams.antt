-- Bytes in, text out: where the input is cut makes no difference, and the whole is what `statement` prints.
use mathlib.Core.Path.{◌≡◌, refl, sym, ◌∙◌, ap}
use mathlib.Core.Bool.{Bool, true, false}
use mathlib.Core.List.{List, [], ◌∷◌, ◌++◌, append_assoc}
use Prim.Native.Nat.{ℕ, zero, suc, ◌≤◌, ◌<◌}
use native.Mathlib.Omega.{arith}
use borrow.Author.Tests.{ne_eqb, le-leb}
use lib.Dec.{eqb}
use lib.ListN.{length, take}
use Rattle.text.specs.Text.{lines_from}
use Rattle.lines.specs.Statement.{State, line_read, text_from, statement_of}
use Rattle.lines.specs.Feeding.{kept_bytes, SoFar, nothing_read, after_byte, byte_text, after, printed, ending, taken_of, joined, pieces_text, Streams}
use Rattle.lines.proofs.Lengths.{line_cut}
use Rattle.lines.proofs.Quiet.{quiet}

pub cut_text : (x : SoFar) (bytes more : List ℕ) → printed x (bytes ++ more) ≡ printed x bytes ++ printed (after x bytes) more
unfolding printed after
cut_text x [] more = refl
cut_text x (b ∷ bytes) more =
    ap (λ (t : List ℕ). byte_text x b ++ t) (cut_text (after_byte x b) bytes more)
    ∙ sym (append_assoc (byte_text x b) (printed (after_byte x b) bytes) (printed (after (after_byte x b) bytes) more))

pub cut_state : (x : SoFar) (bytes more : List ℕ) → after x (bytes ++ more) ≡ after (after x bytes) more
unfolding after
cut_state x [] more = refl
cut_state x (b ∷ bytes) more = cut_state (after_byte x b) bytes more

-- A newline byte ends the line; another byte is kept.
module _ (x : SoFar) (b : ℕ) where
  pub newline_state : eqb b 10 ≡ true → after_byte x b ≡ record { line = []; state = (line_read x.line x.state).state }
  unfolding after_byte
  newline_state e = rw e

  pub newline_text : eqb b 10 ≡ true → byte_text x b ≡ (line_read x.line x.state).text
  unfolding byte_text
  newline_text e = rw e

  pub other_state : eqb b 10 ≡ false → after_byte x b ≡ record { line = take kept_bytes (x.line ++ b ∷ []); state = x.state }
  unfolding after_byte
  other_state e = rw e

  pub other_text : eqb b 10 ≡ false → byte_text x b ≡ []
  unfolding byte_text
  other_text e = rw e

-- What is kept of a line doesn't hang on when the rest of it is dropped.
pub kept_again : (n : ℕ) (l more : List ℕ) → take n (take n l ++ more) ≡ take n (l ++ more)
kept_again zero l more = refl
kept_again (suc n) [] more = refl
kept_again (suc n) (b ∷ l) more = ap (λ (r : List ℕ). b ∷ r) (kept_again n l more)

-- A line that isn't complete yet.
abbrev unfinished : List ℕ → State → SoFar
unfinished l s = record { line = take kept_bytes l; state = s }

last_line : (l : List ℕ) (s : State) → ending (unfinished l s) ≡ text_from s (lines_from l [])
unfolding ending text_from lines_from
last_line [] s = refl
last_line (b ∷ l) s =
    rw (ne_eqb (length (take kept_bytes (b ∷ l))) 0 (λ e. omega arith), ne_eqb (length (b ∷ l)) 0 (λ e. omega arith), line_cut (b ∷ l) s)

from_line : (bytes l : List ℕ) (s : State)
    → printed (unfinished l s) bytes ++ ending (after (unfinished l s) bytes) ≡ text_from s (lines_from l bytes)
unfolding printed after lines_from text_from
from_line [] l s = last_line l s
from_line (b ∷ bytes) l s = by (eqb b 10) refl (from_line bytes [] (line_read l s).state) (from_line bytes (l ++ b ∷ []) s)
  where
    by : (t : Bool) → eqb b 10 ≡ t
        → (printed (unfinished [] (line_read l s).state) bytes ++ ending (after (unfinished [] (line_read l s).state) bytes)
        ≡ text_from (line_read l s).state (lines_from [] bytes))
        → (printed (unfinished (l ++ b ∷ []) s) bytes ++ ending (after (unfinished (l ++ b ∷ []) s) bytes) ≡ text_from s (lines_from (l ++ b ∷ []) bytes))
        → printed (unfinished l s) (b ∷ bytes) ++ ending (after (unfinished l s) (b ∷ bytes)) ≡ text_from s (lines_from l (b ∷ bytes))
    by true e new same =
        rw (e, newline_text (unfinished l s) b e, newline_state (unfinished l s) b e, line_cut l s, append_assoc)
        (ap (λ (t : List ℕ). (line_read l s).text ++ t) new)
    by false e new same = rw (e, other_text (unfinished l s) b e, other_state (unfinished l s) b e, kept_again kept_bytes l (b ∷ [])) same

-- Pieces are read one after the other.
pieces_from : (x : SoFar) (ps : List (List ℕ)) → pieces_text x ps ≡ printed x (joined ps) ++ ending (after x (joined ps))
unfolding pieces_text joined printed after
pieces_from x [] = refl
pieces_from x (p ∷ ps) =
    ap (λ (t : List ℕ). printed x p ++ t) (pieces_from (after x p) ps)
    ∙ sym (append_assoc (printed x p) (printed (after x p) (joined ps)) (ending (after (after x p) (joined ps))))
    ∙ ap (λ (t : List ℕ). t ++ ending (after (after x p) (joined ps))) (sym (cut_text x p (joined ps)))
    ∙ ap (λ (y : SoFar). printed x (p ++ joined ps) ++ ending y) (sym (cut_state x p (joined ps)))

pub streams : Streams
unfolding statement_of
streams =
    record {
      whole = λ bytes. from_line bytes [] _;
      cut_text = cut_text;
      cut_state = cut_state;
      pieces = λ ps. pieces_from nothing_read ps ∙ from_line (joined ps) [] _;
      quiet = quiet;
    }

-- Where a text fits, a session takes at least one byte of an input that has any.
pub taken_some : (room : ℕ) (x : SoFar) (l : List ℕ) → 1024 ≤ room → 0 < length l → 0 < taken_of room x l
unfolding taken_of
taken_some room x [] h k = absurd (omega arith)
taken_some room x (b ∷ l) h k = rw (le-leb 1024 room h) (omega arith)
