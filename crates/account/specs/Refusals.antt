-- Document 01, "When the office declines": which accounts rows 1 to 3 refuse, and the number of each call.
-- a is the account, t terms, l a price list, m a month, x the number that names the critical days.
use Rattle.std.specs.Prelude.{Bool, true, false, ◌&&◌, ◌||◌, List, ℕ, ◌+◌, ltb}
use Rattle.calendar.specs.Calendar.{last_month}
use Rattle.hours.specs.CriticalDays.{critical_refused}
use Rattle.registers.specs.Registers.{length_refused, reading_refused, first_lost}
use Rattle.charges.specs.Charges.{carried_limit, standing_limit}
use Rattle.billing.specs.Billing.{amounts_of}
use Rattle.tariff.specs.declared.Terms.{Terms}
use Rattle.tariff.specs.declared.PriceList.{PriceList}
use Rattle.tariff.specs.Tariff.{some_over}
use Rattle.refusals.specs.Table.{some_applies, contents_rows, opening_row, repricing_row, billing_row, closing_row}
use Rattle.account.specs.declared.Stage.{Stage}
use Rattle.account.specs.declared.Stage.TheVariants.{Fresh, Open, Closed}
use Rattle.account.specs.declared.Account.{Account}

-- "An account is fresh, open or closed."
abbrev pub is_fresh : Stage → Bool
is_fresh Fresh = true
is_fresh Open = false
is_fresh Closed = false

abbrev pub is_open : Stage → Bool
is_open Fresh = false
is_open Open = true
is_open Closed = false

abbrev pub is_closed : Stage → Bool
is_closed Fresh = false
is_closed Open = false
is_closed Closed = true

-- "next month above 1200": the month after the last one is the highest that can be next.
abbrev pub highest_next : ℕ
highest_next = last_month + 1

-- "contents that an opening's checks placed between 3 and 7 (here 4, 5 and 6) refuse"; 02 No. 3 places 12 there too.
unfoldable pub contents_refused : Terms → PriceList → Bool
contents_refused t l = some_applies (contents_rows t l)

-- "one that can't arise: a carried period above 4,000,000,000,000 Wh, standing above 4,000,000,000,000 cents, next month above 1200, or,
-- where open, contents that" the checks refuse.
unfoldable pub cant_arise : Account → Bool
cant_arise a =
    some_over carried_limit (amounts_of a.carried) || ltb standing_limit a.standing || ltb highest_next a.next || (is_open a.stage && contents_refused a.terms a.prices)

-- Row 3: "any call on a closed account, or on one that can't arise".
unfoldable pub unusable : Account → Bool
unusable a = is_closed a.stage || cant_arise a

-- The number that each call is given: the table's first row that applies.
unfoldable pub opening_number : Account → Terms → PriceList → ℕ → ℕ
opening_number a t l m = opening_row (is_open a.stage) (unusable a) t l m

unfoldable pub repricing_number : Account → PriceList → ℕ
repricing_number a l = repricing_row (is_fresh a.stage) (unusable a) l

-- Rows 8, 9, 10 and 13 of a billing: "either register of the wrong length", refused critical days, "a reading above 1,000,000" in either, and
-- (02 No. 4) "a register whose first reading is lost", either of the two.
unfoldable pub billing_number : Account → ℕ → List ℕ → List ℕ → ℕ → ℕ
billing_number a m delivered received x =
    billing_row (is_fresh a.stage) (unusable a) a.next m
    (record {
      wronglength = length_refused m delivered || length_refused m received;
      wrongdays = critical_refused m x;
      abovelimit = reading_refused delivered || reading_refused received;
      firstlost = first_lost delivered || first_lost received;
    })

unfoldable pub closing_number : Account → ℕ
closing_number a = closing_row (is_fresh a.stage) (unusable a)
