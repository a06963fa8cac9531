-- What the private functions promise each other. No public contract cites this file.
use Rattle.std.specs.Prelude.{List, ℕ, ◌/◌, min}
use Rattle.account.specs.declared.Account.{Account}
use Rattle.records.specs.declared.Call.{Call as Said}
use Rattle.records.specs.declared.Call.TheVariants.{Opening, Repricing, Billing, Closing}
use Rattle.records.specs.Rows.{row_length}
use Rattle.ledger.specs.declared.Ran.{Ran}
use Rattle.ledger.specs.declared.Answered.{Answered}
use Rattle.balances.specs.Calls.{Call, opening, repricing, billing, closing, answer_of, account_after}

-- The answer to a call, with the account after it.
unfoldable pub step_of : Account → Call → Answered
step_of a c = record { account = account_after a c; answer = answer_of a c }

-- What a record says, with the readings of a billing.
abbrev pub with_readings : Said → List ℕ → List ℕ → Call
with_readings (Opening a m) delivered received = opening a.terms a.prices m
with_readings (Repricing l) delivered received = repricing l
with_readings (Billing m taken given x) delivered received = billing m delivered received x
with_readings Closing delivered received = closing

-- The end of a list: n calls are answered, and as many rows are written as fit a buffer of so many numbers.
abbrev pub ran_to : Account → ℕ → ℕ → Ran
ran_to a n size = record { account = a; answered = n; written = min n (size / row_length) }
