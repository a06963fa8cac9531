-- What the record of a call says. w is such a record; a place past its end has 0.
use Rattle.std.specs.Prelude.{Bool, cond, ◌&&◌, List, ℕ, ◌+◌, ◌^◌, eqb, leb, ltb, get_or}
use Rattle.records.specs.Sections.{terms_length, known_terms, prices_length}

-- The kind of a call is the first number of its record.
abbrev pub opening_kind : ℕ
opening_kind = 0

abbrev pub repricing_kind : ℕ
repricing_kind = 1

abbrev pub billing_kind : ℕ
billing_kind = 2

abbrev pub closing_kind : ℕ
closing_kind = 3

abbrev pub kind_place : ℕ
kind_place = 0

abbrev pub kind_of : List ℕ → ℕ
kind_of w = get_or w kind_place 0

-- An opening has its terms, its price list and the first month after it, and a repricing its price list at the same place. No call has
-- more numbers than an opening.
abbrev pub terms_place : ℕ
terms_place = kind_place + 1

abbrev pub prices_place : ℕ
prices_place = terms_place + terms_length

abbrev pub first_month_place : ℕ
first_month_place = prices_place + prices_length

abbrev pub record_length : ℕ
record_length = first_month_place + 1

-- A billing has its month, the number of its delivered and of its received readings, and the critical days.
abbrev pub month_place : ℕ
month_place = kind_place + 1

abbrev pub delivered_place : ℕ
delivered_place = month_place + 1

abbrev pub received_place : ℕ
received_place = delivered_place + 1

abbrev pub critical_place : ℕ
critical_place = received_place + 1

-- How many readings a call takes, by the number at a place: a billing alone takes some.
unfoldable pub count_at : List ℕ → ℕ → ℕ
count_at w place = cond (eqb (kind_of w) billing_kind) (get_or w place 0) 0

-- A record is a call where its kind and codes are known, and its month and critical days have 32 bits.
unfoldable pub opening_codes : List ℕ → Bool
opening_codes w = known_terms w terms_place && ltb (get_or w first_month_place 0) (2 ^ 32)

unfoldable pub billing_codes : List ℕ → Bool
billing_codes w = ltb (get_or w month_place 0) (2 ^ 32) && ltb (get_or w critical_place 0) (2 ^ 32)

unfoldable pub is_call : List ℕ → Bool
is_call w =
    cond (eqb (kind_of w) opening_kind) (opening_codes w)
    (cond (eqb (kind_of w) billing_kind) (billing_codes w) (leb (kind_of w) closing_kind))
