-- How a list of calls is lent to `run`: a record for each call, and the readings of its billings one after the other in two registers; and
-- how its answers are written: a row for each. w is the record of one call.
use Rattle.std.specs.Prelude.{◌≡◌, cond, ◌&&◌, List, [], ◌∷◌, ◌++◌, ℕ, zero, suc, ◌-◌, ◌/◌, ◌^◌, ◌<◌, eqb, length, get_or, take, drop, replicate, Option, Some, None}
use Rattle.tariff.specs.Tariff.{most_nameplates}
use Rattle.account.specs.declared.Account.{Account}
use Rattle.records.specs.declared.Answer.{Answer}
use Rattle.records.specs.Sections.{terms_length, terms_numbers, terms_at, prices_numbers, prices_at}
use Rattle.records.specs.Records.{opening_kind, repricing_kind, billing_kind, closing_kind, kind_of, count_at, is_call}
use Rattle.records.specs.Records.{terms_place, prices_place, first_month_place, month_place, delivered_place, received_place, critical_place, record_length}
use Rattle.records.specs.Rows.{row_of}
use Rattle.ledger.specs.declared.Answered.{Answered}
use Rattle.balances.specs.Calls.{Call, opening, repricing, billing, closing, answer_of, account_after}

-- The call of a record, with the readings of a billing.
unfoldable pub call_of : List ℕ → List ℕ → List ℕ → Call
call_of w delivered received =
    cond (eqb (kind_of w) opening_kind) (opening (terms_at w terms_place) (prices_at w prices_place) (get_or w first_month_place 0))
    (cond (eqb (kind_of w) repricing_kind) (repricing (prices_at w prices_place))
    (cond (eqb (kind_of w) billing_kind) (billing (get_or w month_place 0) delivered received (get_or w critical_place 0)) closing))

-- At most n records from the front of ws. A billing takes its readings from the front of the registers, or what is left of them. The list
-- ends at the first record that is no call.
unfoldable pub decode : ℕ → List ℕ → List ℕ → List ℕ → List Call
decode zero ws delivered received = []
decode (suc n) ws delivered received =
    cond (is_call (take record_length ws))
    (call_of
    (take record_length ws)
    (take (count_at (take record_length ws) delivered_place) delivered)
    (take (count_at (take record_length ws) received_place) received)
    ∷ decode
    n
    (drop record_length ws)
    (drop (count_at (take record_length ws) delivered_place) delivered)
    (drop (count_at (take record_length ws) received_place) received))
    []

-- The calls that are lent: one for each record.
unfoldable pub calls_in : List ℕ → List ℕ → List ℕ → List Call
calls_in ws delivered received = decode (length ws / record_length) ws delivered received

-- A record's first numbers, and 0 in the rest.
unfoldable pub with_zeros : List ℕ → List ℕ
with_zeros xs = xs ++ replicate (record_length - length xs) 0

-- The record of a call; places that it doesn't use are 0.
unfoldable pub record_of : Call → List ℕ
record_of (opening t l m) = opening_kind ∷ terms_numbers t ++ prices_numbers l ++ m ∷ []
record_of (repricing l) = with_zeros (repricing_kind ∷ replicate terms_length 0 ++ prices_numbers l)
record_of (billing m delivered received x) = with_zeros (billing_kind ∷ m ∷ length delivered ∷ length received ∷ x ∷ [])
record_of closing = with_zeros (closing_kind ∷ [])

-- The registers of a call.
abbrev pub delivered_of : Call → List ℕ
delivered_of (opening t l m) = []
delivered_of (repricing l) = []
delivered_of (billing m delivered received x) = delivered
delivered_of closing = []

abbrev pub received_of : Call → List ℕ
received_of (opening t l m) = []
received_of (repricing l) = []
received_of (billing m delivered received x) = received
received_of closing = []

-- A list of calls as it is lent.
unfoldable pub joined : (Call → List ℕ) → List Call → List ℕ
joined f [] = []
joined f (c ∷ cs) = f c ++ joined f cs

-- A call fits a record: its terms have eight places for nameplates, and its month and critical days are numbers of 32 bits.
abbrev pub Fits : Call → Type 0
Fits (opening t l m) = (length t.nameplates ≡ most_nameplates) × (m < 2 ^ 32)
Fits (repricing l) = Unit {0}
Fits (billing m delivered received x) = (m < 2 ^ 32) × (x < 2 ^ 32)
Fits closing = Unit {0}

unfoldable pub AllFit : List Call → Type 0
AllFit [] = Unit {0}
AllFit (c ∷ cs) = Fits c × AllFit cs

-- The rows of a list of answers.
unfoldable pub rows_of : List Answer → List ℕ
rows_of [] = []
rows_of (x ∷ xs) = row_of x ++ rows_of xs

-- The answer to one record on an account, and the account after it, where the record is a call of a record's length.
unfoldable pub answered_of : Account → List ℕ → List ℕ → List ℕ → Option Answered
answered_of a w delivered received =
    cond (eqb (length w) record_length && is_call w)
    (Some (record { account = account_after a (call_of w delivered received); answer = answer_of a (call_of w delivered received) }))
    None
