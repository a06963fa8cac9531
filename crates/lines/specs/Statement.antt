-- Document 01, "Day view and statement": the program `statement`, line by line. s is what has been read so far, l a line, v the numbers that
-- the line gives ("Grammar": none where it is unreadable).
use Rattle.std.specs.Prelude.{Bool, cond, not, ◌||◌, List, [], ◌∷◌, ◌++◌, ℕ, ◌+◌, ◌-◌, ◌^◌, eqb, ltb, length, get_or, replicate}
use Rattle.std.proofs.lemmas.List.Edits.{sets}
use Rattle.account.specs.declared.Account.{Account}
use Rattle.account.specs.Account.{PlainReply, BillingReply, fresh_account, opening_reply, billing_reply}
use Rattle.text.specs.Text.{lines_from}
use Rattle.grammar.specs.Grammar.{opening_line, bill_line, critical_line, run_line}
use Rattle.printing.specs.Printing.{bill_text, open_text, line_text}
use Rattle.lines.specs.Opening.{place_of_line, opening_length, kept_of_line, opening_month, opening_terms, opening_prices}

-- Of a month that is being read: its number, its critical days and its readings so far.
pub record Month : Type 0 where
  pub month : ℕ
  pub critical : ℕ
  pub delivered : List ℕ
  pub received : List ℕ

abbrev pub month_of : ℕ → ℕ → List ℕ → List ℕ → Month
month_of m x d e = record { month = m; critical = x; delivered = d; received = e }

-- What has been read: how many lines, which line is expected next, the opening's numbers ("Opening"; those not read yet are 0), the account,
-- and the month that is being read.
pub record State : Type 0 where
  pub lines : ℕ
  pub expected : ℕ
  pub values : List ℕ
  pub account : Account
  pub entered : Month

abbrev pub state : ℕ → ℕ → List ℕ → Account → Month → State
state n d xs a m = record { lines = n; expected = d; values = xs; account = a; entered = m }

-- "the first fourteen open the account": line k + 1 is expected where the number is k. Then "each month follows as bill, critical and any
-- number of runs": after the opening a bill line is expected, then a critical line, then a run or the next bill line.
abbrev pub bill_expected : ℕ
bill_expected = 14

abbrev pub critical_expected : ℕ
critical_expected = 15

abbrev pub run_expected : ℕ
run_expected = 16

-- After a fault no line is expected.
abbrev pub stopped : ℕ
stopped = 17

-- Whether a fault has stopped the program: of what can be expected only `stopped` is above `run_expected`.
unfoldable pub has_stopped : State → Bool
has_stopped s = ltb run_expected s.expected

-- The state before the first line.
abbrev pub start : State
start = state 0 0 (replicate opening_length 0) fresh_account (month_of 0 0 [] [])

-- The state after a line, and what it prints.
pub record Outcome : Type 0 where
  pub state : State
  pub text : List ℕ

abbrev pub outcome : List ℕ → State → Outcome
outcome text s = record { state = s; text = text }

abbrev pub is_unreadable : List ℕ → Bool
is_unreadable v = eqb (length v) 0

-- The number of the next line. Our reading: numbers of lines stay at the largest one of 64 bits, which no input reaches.
abbrev pub last_number : ℕ
last_number = 2 ^ 64 - 1

unfoldable pub next_number : ℕ → ℕ
next_number n = cond (ltb n last_number) (n + 1) n

unfoldable pub counted : State → State
counted s = state (next_number s.lines) s.expected s.values s.account s.entered

-- "A line out of order, unreadable or absent where one is due, or a run past 2,976 readings, prints `line=` with its number counted from 1 and
-- stops; an opening or month still being read prints nothing."
unfoldable pub fault : State → Outcome
fault s = outcome (line_text s.lines) (state s.lines stopped s.values s.account s.entered)

-- A line of the opening: what is kept of it is put where it belongs, and the next line is expected, after line 14 a bill line.
abbrev pub with_line : List ℕ → State → State
with_line v s =
    state s.lines (s.expected + 1) (sets s.values (place_of_line s.expected) (kept_of_line s.expected v)) s.account
    s.entered

-- "It prints the opening's number once line 14 is read"
abbrev pub account_reply : Account → List ℕ → PlainReply
account_reply a xs = opening_reply a (opening_terms xs) (opening_prices xs) (opening_month xs)

unfoldable pub opened : State → Outcome
opened s =
    let r : PlainReply = account_reply s.account s.values in
    outcome (open_text r.number) (state s.lines s.expected s.values r.account s.entered)

unfoldable pub opening_read : List ℕ → State → Outcome
opening_read v s = cond (is_unreadable v) (fault s) (cond (ltb s.expected 13) (outcome [] (with_line v s)) (opened (with_line v s)))

-- A month begins with its bill line; it has no readings yet.
abbrev pub begun : ℕ → State → State
begun m s = state s.lines critical_expected s.values s.account (month_of m s.entered.critical [] [])

unfoldable pub bill_read : List ℕ → State → Outcome
bill_read v s = cond (is_unreadable v) (fault s) (outcome [] (begun (get_or v 0 0) s))

-- Its critical line.
abbrev pub with_critical : ℕ → State → State
with_critical x s =
    state s.lines run_expected s.values s.account
    (month_of s.entered.month x s.entered.delivered s.entered.received)

unfoldable pub critical_read : List ℕ → State → Outcome
critical_read v s = cond (is_unreadable v) (fault s) (outcome [] (with_critical (get_or v 0 0) s))

-- "any number of runs (count, delivered, received)": so many more readings of each register, in all at most 2,976. A lost one (02 No. 4) has
-- its mark for delivered or received; as a count the mark is past 2,976.
abbrev pub run_limit : ℕ
run_limit = 2976

abbrev pub with_run : ℕ → ℕ → ℕ → State → State
with_run count d e s =
    state s.lines s.expected s.values s.account
    (month_of s.entered.month s.entered.critical
    (s.entered.delivered ++ replicate count d)
    (s.entered.received ++ replicate count e))

unfoldable pub run_read : ℕ → ℕ → ℕ → State → Outcome
run_read count d e s =
    cond (ltb run_limit (length s.entered.delivered + count)) (fault s) (outcome [] (with_run count d e s))

-- "for each month, when it is complete, the month as entered, its number, the seven energy rows by period .., energy and due; a refused
-- month's amounts are 0"
abbrev pub month_reply : State → BillingReply
month_reply s =
    billing_reply s.account s.entered.month s.entered.delivered s.entered.received s.entered.critical

unfoldable pub month_end : State → Outcome
month_end s =
    let r : BillingReply = month_reply s in
    outcome (bill_text s.entered.month r.number r.bill) (state s.lines s.expected s.values r.account s.entered)

-- "it is complete when a readable bill line or the end of the input follows its critical line or a run"
unfoldable pub run_or_bill_read : List ℕ → State → Outcome
run_or_bill_read l s =
    cond (not (is_unreadable (run_line l))) (run_read (get_or (run_line l) 0 0) (get_or (run_line l) 1 0) (get_or (run_line l) 2 0) s)
    (cond (is_unreadable (bill_line l)) (fault s)
    (outcome (month_end s).text (begun (get_or (bill_line l) 0 0) (month_end s).state)))

-- A line, by what is expected. After a fault it is only counted, and nothing is printed.
unfoldable pub expected_read : List ℕ → State → Outcome
expected_read l s =
    cond (ltb s.expected bill_expected) (opening_read (opening_line s.expected l) s)
    (cond (eqb s.expected bill_expected) (bill_read (bill_line l) s)
    (cond (eqb s.expected critical_expected) (critical_read (critical_line l) s)
    (cond (eqb s.expected run_expected) (run_or_bill_read l s) (outcome [] s))))

unfoldable pub line_read : List ℕ → State → Outcome
line_read l s = expected_read l (counted s)

-- The end of the input: it completes a month, and fourteen lines with nothing after them are complete; elsewhere a line is absent, and has the
-- number that it would have had.
unfoldable pub at_end : State → List ℕ
at_end s =
    cond (eqb s.expected bill_expected || has_stopped s) []
    (cond (eqb s.expected run_expected) (month_end s).text (line_text (next_number s.lines)))

-- What is printed from a state on.
unfoldable pub text_from : State → List (List ℕ) → List ℕ
text_from s [] = at_end s
text_from s (l ∷ ls) = (line_read l s).text ++ text_from (line_read l s).state ls

-- What `statement` prints for an input. "The last line may lack its newline": `lines_from`.
unfoldable pub statement_of : List ℕ → List ℕ
statement_of bytes = text_from start (lines_from [] bytes)
