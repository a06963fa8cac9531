-- How `statement` ended, as a number: told by what it printed, unless a read or a write failed. Our own numbers; no document names any.
use Rattle.std.specs.Prelude.{◌≡◌, Bool, cond, not, ◌&&◌, ◌||◌, List, [], ◌∷◌, ◌++◌, ℕ, ◌^◌, ◌<◌, eqb, leb, length, get_or}
use Rattle.calendar.specs.Calendar.{year_of}
use Rattle.billing.specs.declared.Bill.{Bill}
use Rattle.text.specs.Text.{bytes_of, lines_from}
use Rattle.printing.specs.Printing.{open_text, bill_text, line_text}
use Rattle.lines.specs.Statement.{statement_of}

-- Opening and months were accepted, all of them,
abbrev pub accepted : ℕ
accepted = 0

-- or one was refused, and the program went on,
abbrev pub refused : ℕ
refused = 1

-- or it stopped at a line.
abbrev pub stopped_at_line : ℕ
stopped_at_line = 2

-- 3 is left to the program above. A read failed, or a write.
abbrev pub read_failed : ℕ
read_failed = 4

abbrev pub write_failed : ℕ
write_failed = 5

-- A printed line begins with `open=`, `bill=` or `line=`: its first byte tells which.
abbrev pub begins_as : List ℕ → List ℕ → Bool
begins_as line word = eqb (get_or line 0 0) (get_or word 0 0)

-- Where the number of an opening or a month stands in its line.
abbrev pub number_place : List ℕ → ℕ
number_place line = cond (begins_as line (bytes_of "open=")) (length (bytes_of "open=")) (length (bytes_of "bill=YYYY-MM answer="))

-- Numbers are printed without leading zeros, so one is 0 where its first digit is.
abbrev pub is_zero : List ℕ → Bool
is_zero line = eqb (get_or line (number_place line) 0) 48

-- The status after one opening or month more, which was accepted or not: the first one that was refused changes it.
abbrev pub after_reply : ℕ → Bool → ℕ
after_reply status was_accepted = cond (eqb status accepted && not was_accepted) refused status

-- The status after one printed line more, without its newline.
unfoldable pub status_after : ℕ → List ℕ → ℕ
status_after status line = cond (begins_as line (bytes_of "line=")) stopped_at_line (after_reply status (is_zero line))

unfoldable pub status_over : ℕ → List (List ℕ) → ℕ
status_over status [] = status
status_over status (l ∷ ls) = status_over (status_after status l) ls

-- The status after a printed text.
unfoldable pub status_from : ℕ → List ℕ → ℕ
status_from status text = status_over status (lines_from [] text)

abbrev pub status_of : List ℕ → ℕ
status_of text = status_from accepted text

-- So it is told by the numbers that were printed: a text that begins with an opening, a month or a stop has the status of its rest after that
-- one's number. (A number is printed in 20 digits at most, and each month that can be entered has a year of four.)
pub record StatusTells : Type 0 where
  pub nothing : (s : ℕ) → status_from s [] ≡ s
  pub opening : (s n : ℕ) (rest : List ℕ) → n < 10 ^ 20 → status_from s (open_text n ++ rest) ≡ status_from (after_reply s (eqb n 0)) rest
  pub month : (s m n : ℕ) (b : Bill) (rest : List ℕ) → year_of m < 10000 → n < 10 ^ 20
      → status_from s (bill_text m n b ++ rest) ≡ status_from (after_reply s (eqb n 0)) rest
  pub stop : (s n : ℕ) (rest : List ℕ) → status_from s (line_text n ++ rest) ≡ status_from stopped_at_line rest

-- One of these five, and so never the number that is left to the program above.
abbrev pub is_end : ℕ → Bool
is_end result = leb result stopped_at_line || eqb result read_failed || eqb result write_failed

-- The input that was read is one of all inputs; which, no contract can say.
pub data Ends (result : ℕ) : Type 0 where
  told : (input : List ℕ) → result ≡ status_of (statement_of input) → Ends result
  unread : result ≡ read_failed → Ends result
  unwritten : result ≡ write_failed → Ends result
