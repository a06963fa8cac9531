-- What the progress stands for, and what its functions promise.
use Rattle.std.specs.Prelude.{◌≡◌, ◌≤◌, Bool, false, cond, ◌&&◌, List, ℕ, zero, suc, ◌+◌, eqb, leb, length, get_or, take, drop}
use Rattle.text.specs.Text.{place_of}
use Rattle.grammar.specs.Grammar.{run_line}
use Rattle.printing.specs.Writing.{has_room, Put}
use Rattle.lines.specs.Statement.{State, state, month_of, is_unreadable, run_limit, run_expected, line_read}
use Rattle.lines.specs.Feeding.{Registers, with_readings}
use Rattle.progress.specs.declared.mark.Mark.{Mark}
use Rattle.progress.specs.declared.Progress.{Progress}
use Rattle.progress.specs.Values.{values_of}
use Rattle.progress.specs.Expected.{number_of}
use Rattle.progress.specs.Readings.{delivered_of, received_of, registers_in}

abbrev pub state_of : Progress → State
state_of x =
    state x.lines (number_of x.expected) (values_of x.opening) x.account
    (month_of x.month x.critical (delivered_of x.readings) (received_of x.readings))

-- The registers that the month's readings stand at the front of.
abbrev pub registers_held : Progress → Registers
registers_held x = registers_in x.readings

-- A line was read, where a text fits into the buffer from place i on: what the progress stands for then, and its text. Elsewhere both
-- stay as they were. Past the month's readings the registers are unaltered.
pub record Reads (before : Progress) (line : List ℕ) (out : List ℕ) (i : ℕ) (later : Progress) (out_later : List ℕ) (j : ℕ) : Type 0 where
  pub state : state_of later ≡ cond (has_room out i) (line_read line (state_of before)).state (state_of before)
  pub registers : registers_held later ≡ with_readings (state_of later) (registers_held before)
  pub text : Put out i (line_read line (state_of before)).text out_later j

-- What a mark has of a progress.
pub record Marks (x : Progress) (k : Mark) : Type 0 where
  pub lines : k.lines ≡ x.lines
  pub expected : k.expected ≡ x.expected
  pub opening : k.opening ≡ x.opening
  pub account : k.account ≡ x.account
  pub month : k.month ≡ x.month
  pub critical : k.critical ≡ x.critical
  pub count : k.count ≡ x.readings.count
  pub delivered : k.count ≤ length x.readings.delivered
  pub received : k.count ≤ length x.readings.received

-- What a mark stands for with the readings that these registers have.
abbrev pub marked : Mark → Registers → State
marked k r =
    state k.lines (number_of k.expected) (values_of k.opening) k.account
    (month_of k.month k.critical (take k.count r.delivered) (take k.count r.received))

-- The progress went back to a mark; the registers are unaltered.
pub record GoesBack (before : Progress) (k : Mark) (later : Progress) : Type 0 where
  pub state : state_of later ≡ marked k (registers_held before)
  pub registers : registers_held later ≡ registers_held before

-- The line that ends at the first newline of an input.
abbrev pub line_at : List ℕ → List ℕ
line_at l = take (place_of 10 l) l

-- Whether it is complete, a readable run line, and fits after so many readings.
unfoldable pub is_run : List ℕ → ℕ → Bool
is_run l stored =
    cond (eqb (place_of 10 l) (length l)) false
    (cond (is_unreadable (run_line (line_at l))) false (leb (stored + get_or (run_line (line_at l)) 0 0) run_limit))

unfoldable pub is_run_expected : List ℕ → State → Bool
is_run_expected l s = eqb s.expected run_expected && is_run l (length s.entered.delivered)

-- How many bytes the run lines at the front of an input have, and the state after them; n bounds how many lines they are. A month has up to
-- 2,976 run lines, so for speed they are read by themselves; each still changes the state as `line_read` says.
unfoldable pub runs_bytes : ℕ → List ℕ → State → ℕ
runs_bytes zero l s = zero
runs_bytes (suc n) l s =
    cond (is_run_expected l s) (place_of 10 l + 1 + runs_bytes n (drop (place_of 10 l + 1) l) (line_read (line_at l) s).state) zero

unfoldable pub runs_state : ℕ → List ℕ → State → State
runs_state zero l s = s
runs_state (suc n) l s = cond (is_run_expected l s) (runs_state n (drop (place_of 10 l + 1) l) (line_read (line_at l) s).state) s

-- They were read. Past the month's readings the registers are unaltered.
pub record RunsRead (before : Progress) (input : List ℕ) (taken : ℕ) (later : Progress) : Type 0 where
  pub takes : taken ≡ runs_bytes (length input) input (state_of before)
  pub state : state_of later ≡ runs_state (length input) input (state_of before)
  pub registers : registers_held later ≡ with_readings (state_of later) (registers_held before)
