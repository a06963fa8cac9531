-- What the private functions promise each other. No public contract cites this file.
use Rattle.std.specs.Prelude.{◌≡◌, ◌<◌, false, cond, List, [], ℕ, ◌+◌, length, get_or, drop}
use Rattle.std.specs.Prelude.{Option, None, Some}
use Rattle.std.specs.Result.{result_unwrap_or}
use Rattle.text.specs.Text.{place_of}
use Rattle.refusals.specs.Numbers.{number_of}
use Rattle.billing.specs.Billing.{no_bill}
use Rattle.grammar.specs.Grammar.{run_line}
use Rattle.printing.specs.Printing.{bill_text, open_text, line_text}
use Rattle.lines.specs.Statement.{State, Outcome, outcome, fault, is_unreadable}
use Rattle.lines.specs.Feeding.{with_readings}
use Rattle.progress.specs.declared.Progress.{Progress}
use Rattle.progress.specs.declared.readings.Run.{Run}
use Rattle.progress.specs.declared.Text.{Text}
use Rattle.progress.specs.declared.Text.TheVariants.{Nothing, Line, Open, Month}
use Rattle.progress.specs.Progressing.{state_of, registers_held, line_at, is_run}

abbrev pub text_of : Text → List ℕ
text_of Nothing = []
text_of (Line number) = line_text number
text_of (Open answer) = open_text (number_of answer)
text_of (Month month answer) = bill_text month (number_of answer) (result_unwrap_or answer no_bill)

-- What a line does: where nothing is answered, it is at fault.
abbrev pub outcome_of : Option Text → State → Outcome
outcome_of None s = fault s
outcome_of (Some text) s = outcome (text_of text) s

-- A line was read, but that a fault doesn't stop yet. Past the month's readings the registers are unaltered.
pub record Steps (before : Progress) (step : Outcome) (text : Option Text) (later : Progress) : Type 0 where
  pub outcome : outcome_of text (state_of later) ≡ step
  pub registers : registers_held later ≡ with_readings (state_of later) (registers_held before)

-- The same of one that is not at fault, which the registers are unaltered by.
pub record Tells (before : Progress) (step : Outcome) (text : Text) (later : Progress) : Type 0 where
  pub outcome : outcome (text_of text) (state_of later) ≡ step
  pub registers : registers_held later ≡ registers_held before

-- The later progress stands for what f makes of the one before.
pub record Changes (before : Progress) (f : State → State) (later : Progress) : Type 0 where
  pub state : state_of later ≡ f (state_of before)
  pub registers : registers_held later ≡ registers_held before

-- The run that three numbers stand for, and that of a readable run line.
abbrev pub run_from : List ℕ → Run
run_from v = record { count = get_or v 0 0; delivered = get_or v 1 0; received = get_or v 2 0 }

unfoldable pub run_of : List ℕ → Option Run
run_of l = cond (is_unreadable (run_line l)) None (Some (run_from (run_line l)))

-- No run line can be taken from the front of an input, whatever readings there are; or it begins with a readable one, and what is behind it is the rest.
abbrev pub NoRun : List ℕ → Type 0
NoRun l = (n : ℕ) → is_run l n ≡ false

pub record FirstRun (l : List ℕ) (run : Run) (rest : List ℕ) : Type 0 where
  pub newline : place_of 10 l < length l
  pub reads : Some run ≡ run_of (line_at l)
  pub behind : rest ≡ drop (place_of 10 l + 1) l
