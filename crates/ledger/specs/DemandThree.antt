-- Demand 3 whole: what `run` promises of every list of calls.
use Rattle.std.specs.Prelude.{◌≡◌, false, List, ℕ, ◌/◌, ◌≤◌, min, length}
use Rattle.std.proofs.lemmas.List.Edits.{sets}
use Rattle.account.specs.declared.Account.{Account}
use Rattle.account.specs.Refusals.{cant_arise, highest_next}
use Rattle.records.specs.Rows.{row_length}
use Rattle.balances.specs.Calls.{Call, answers_of, last_of}
use Rattle.balances.specs.Balances.{StartsFresh, Balanced}
use Rattle.ledger.specs.declared.Ran.{Ran}
use Rattle.ledger.specs.Encoding.{calls_in, record_of, delivered_of, received_of, joined, AllFit, rows_of}

-- The last account and every answer are those of document 01's steps and table, folded over the calls alone from the account that the list
-- starts from. Rows are written one after the other from the front of the lent buffer, and what doesn't fit is left out (`sets`): r says how
-- many calls are answered, and how many rows are written whole. From every account that starts fresh the balances hold, and with a next month
-- in bounds the last account is one that can arise.
pub record Holds (start : Account) (cs : List Call) (before after : List ℕ) (r : Ran) : Type 0 where
  pub account : r.account ≡ last_of start cs
  pub answers : after ≡ sets before 0 (rows_of (answers_of start cs))
  pub answered : r.answered ≡ length cs
  pub written : r.written ≡ min (length cs) (length before / row_length)
  pub balances : StartsFresh start → Balanced start cs
  pub arises : StartsFresh start → start.next ≤ highest_next → cant_arise r.account ≡ false

-- For what is lent, whatever it is: the calls are those that it reads back as.
pub record DemandThree (start : Account) (calls delivered received before after : List ℕ) (r : Ran) : Type 0 where
  pub lent : Holds start (calls_in calls delivered received) before after r
  -- And so for every list of calls, lent by its records and registers.
  pub every : (cs : List Call) → AllFit cs → calls ≡ joined record_of cs → delivered ≡ joined delivered_of cs → received ≡ joined received_of cs
      → Holds start cs before after r
