-- What is read of a record where its codes are known, and None where they aren't.
use Rattle.std.specs.Prelude.{Bool, cond, List, ℕ, ◌^◌, eqb, leb, ltb, get_or, Option, Some, None}
use Rattle.tariff.specs.declared.Terms.{Terms}
use Rattle.records.specs.declared.Call.{Call}
use Rattle.records.specs.declared.Call.TheVariants.{Opening, Repricing, Billing, Closing}
use Rattle.records.specs.Sections.{known_terms, terms_at, prices_at}
use Rattle.records.specs.Records.{opening_kind, repricing_kind, billing_kind, kind_of, opening_codes, billing_codes, is_call}
use Rattle.records.specs.Records.{terms_place, prices_place, first_month_place, month_place, delivered_place, received_place, critical_place}

-- Yes or no of a known code.
abbrev pub yes_read : ℕ → Option Bool
yes_read n = cond (leb n 1) (Some (eqb n 1)) None

-- The terms that start at a place.
unfoldable pub terms_read : List ℕ → ℕ → Option Terms
terms_read w place = cond (known_terms w place) (Some (terms_at w place)) None

-- A number of 32 bits.
abbrev pub small_read : List ℕ → ℕ → Option ℕ
small_read w place = cond (ltb (get_or w place 0) (2 ^ 32)) (Some (get_or w place 0)) None

-- What an opening's and a billing's record say.
abbrev pub opening_said : List ℕ → Call
opening_said w =
    Opening (record { terms = terms_at w terms_place; prices = prices_at w prices_place }) (get_or w first_month_place 0)

abbrev pub billing_said : List ℕ → Call
billing_said w = Billing (get_or w month_place 0) (get_or w delivered_place 0) (get_or w received_place 0) (get_or w critical_place 0)

unfoldable pub opening_read : List ℕ → Option Call
opening_read w = cond (opening_codes w) (Some (opening_said w)) None

unfoldable pub billing_read : List ℕ → Option Call
billing_read w = cond (billing_codes w) (Some (billing_said w)) None

-- What a record that is a call says, by its kind.
unfoldable pub said_by : List ℕ → Call
said_by w =
    cond (eqb (kind_of w) opening_kind) (opening_said w)
    (cond (eqb (kind_of w) repricing_kind) (Repricing (prices_at w prices_place))
    (cond (eqb (kind_of w) billing_kind) (billing_said w) Closing))

unfoldable pub call_read : List ℕ → Option Call
call_read w = cond (is_call w) (Some (said_by w)) None

-- How many readings a call takes from each register: a billing alone takes some.
abbrev pub delivered_said : Call → ℕ
delivered_said (Billing m delivered received x) = delivered
delivered_said (Opening a m) = 0
delivered_said (Repricing l) = 0
delivered_said Closing = 0

abbrev pub received_said : Call → ℕ
received_said (Billing m delivered received x) = received
received_said (Opening a m) = 0
received_said (Repricing l) = 0
received_said Closing = 0
