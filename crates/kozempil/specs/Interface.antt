-- The interface for C: how an account is written to a lent buffer and read from one, and what a list of calls leaves there. w is the row of an
-- account.
use Rattle.std.specs.Prelude.{◌≡◌, Bool, cond, ◌&&◌, List, [], ◌∷◌, ◌++◌, ℕ, ◌+◌, ◌/◌, ◌^◌, min, eqb, leb, ltb, length, get_or, Option, Some, None}
use Rattle.std.proofs.lemmas.List.Edits.{sets}
use Rattle.hours.specs.Hours.{four}
use Rattle.registers.specs.DayView.{Part}
use Rattle.account.specs.declared.Account.{Account}
use Rattle.account.specs.Codes.{stage_code, stage_at}
use Rattle.account.specs.Account.{fresh_account}
use Rattle.records.specs.Sections.{terms_length, terms_numbers, terms_at, known_terms, prices_length, prices_numbers, prices_at, four_at}
use Rattle.records.specs.Records.{record_length, is_call}
use Rattle.records.specs.Rows.{row_length}
use Rattle.balances.specs.Calls.{Call, answer_of, account_after, answers_of, last_of}
use Rattle.balances.specs.Balances.{Balanced}
use Rattle.ledger.specs.Encoding.{call_of, rows_of}
use Rattle.ledger.specs.declared.Answered.{Answered}
use Rattle.kozempil.specs.declared.Counts.{Counts}

-- Our rule: the layout of calls, answers and accounts has a version, which rises when a place, a code or a number is added or changed.
abbrev pub layout_version : ℕ
layout_version = 3

-- The row of an account: stage; terms; price list; next month; carried by period; standing money.
abbrev pub stage_place : ℕ
stage_place = 0

abbrev pub terms_place : ℕ
terms_place = stage_place + 1

abbrev pub prices_place : ℕ
prices_place = terms_place + terms_length

abbrev pub next_place : ℕ
next_place = prices_place + prices_length

abbrev pub carried_place : ℕ
carried_place = next_place + 1

abbrev pub standing_place : ℕ
standing_place = carried_place + 4

abbrev pub account_length : ℕ
account_length = standing_place + 1

unfoldable pub account_row : Account → List ℕ
account_row a =
    stage_code a.stage ∷ terms_numbers a.terms ++ prices_numbers a.prices ++ a.next ∷ four a.carried (a.standing ∷ [])

-- Numbers are an account where there are as many of them, the codes are known, and the next month has 32 bits.
unfoldable pub is_account : List ℕ → Bool
is_account w =
    eqb (length w) account_length && leb (get_or w stage_place 0) 2 && known_terms w terms_place && ltb (get_or w next_place 0) (2 ^ 32)

-- The account of a row. What is written of an account is read back as that account where its terms have eight places for nameplates and its next
-- month has 32 bits: theorem `row_reads_back`.
unfoldable pub account_at : List ℕ → Account
account_at w =
    record {
      stage = stage_at (get_or w stage_place 0);
      terms = terms_at w terms_place;
      prices = prices_at w prices_place;
      next = get_or w next_place 0;
      carried = four_at w carried_place;
      standing = get_or w standing_place 0;
    }

-- What numbers are read as, where they are an account.
unfoldable pub account_read : List ℕ → Option Account
account_read w = cond (is_account w) (Some (account_at w)) None

-- A list of calls from the fresh account: rows of its answers and the row of the last account are written to two buffers, each from its front,
-- and what doesn't fit is left out (`sets`); r counts the calls answered and the rows of answers written whole.
pub record ListAnswered (cs : List Call) (answers_before answers_after account_before account_after : List ℕ) (r : Counts) : Type 0 where
  pub answered : r.answered ≡ length cs
  pub written : r.written ≡ min (length cs) (length answers_before / row_length)
  pub answers : answers_after ≡ sets answers_before 0 (rows_of (answers_of fresh_account cs))
  pub account : account_after ≡ sets account_before 0 (account_row (last_of fresh_account cs))
  pub balances : Balanced fresh_account cs

-- A call on a given account is answered where the numbers are an account, and the record is a call of a record's length.
unfoldable pub is_answered : List ℕ → List ℕ → Bool
is_answered w call = is_account w && (eqb (length call) record_length && is_call call)

-- The answer to it, and the account after it.
unfoldable pub answer_to : List ℕ → List ℕ → List ℕ → List ℕ → Option Answered
answer_to w call delivered received =
    cond (is_answered w call)
    (Some (record { account = account_after (account_at w) (call_of call delivered received); answer = answer_of (account_at w) (call_of call delivered received) }))
    None

-- A day view as start and length: the places before it in the register named, and the readings in it.
unfoldable pub part_numbers : Part → List ℕ
part_numbers p = p.start ∷ p.count ∷ []
