-- Document 01, "When the office declines", with row 12 of 02 No. 3 and row 13 of 02 No. 4: the rows of each call, in the order in which they are
-- asked. fresh, opened and unusable say what the account is, and next is its next month; t are terms, l is a price list, m a month; f says which
-- of rows 8, 9, 10 and 13 apply. The words of the rows: 1 not open, 2 open already, 3 closed, 4 price list, 5 capacity, 6 no bridge, 7 month,
-- 8 register length, 9 critical days, 10 reading, 11 book full, and ours: 12 nameplates, 13 first reading lost.
use Rattle.std.specs.Prelude.{Bool, false, cond, not, ◌||◌, List, [], ◌∷◌, ◌++◌, ℕ, eqb, ltb}
use Rattle.calendar.specs.Calendar.{last_month}
use Rattle.tariff.specs.declared.Terms.{Terms}
use Rattle.tariff.specs.declared.PriceList.{PriceList}
use Rattle.tariff.specs.Tariff.{prices_refused, nameplates_refused, capacity_refused, bridge_refused}
use Rattle.refusals.specs.declared.Faults.{Faults}

-- A row of the table: whether it applies, and its number.
pub record Row : Type 0 where
  pub applies : Bool
  pub number : ℕ

abbrev pub row : ℕ → Bool → Row
row n b = record { applies = b; number = n }

-- "The lowest number that applies is given, except that 11 comes before 7"; by 02 No. 3 12 comes before 5. "Accepted calls answer 0": the first of the rows,
-- which stand in that order.
abbrev pub first_of : List Row → ℕ
first_of [] = 0
first_of (r ∷ rs) = cond r.applies r.number (first_of rs)

-- Whether one of the rows applies.
abbrev pub some_applies : List Row → Bool
some_applies [] = false
some_applies (r ∷ rs) = r.applies || some_applies rs

-- "an opening's checks placed between 3 and 7 (here 4, 5 and 6)": those of what an account then holds. 02 No. 3: 12 is "checked before 5".
unfoldable pub contents_rows : Terms → PriceList → List Row
contents_rows t l = row 4 (prices_refused l) ∷ row 12 (nameplates_refused t) ∷ row 5 (capacity_refused t) ∷ row 6 (bridge_refused t) ∷ []

-- The number of the first row that applies, for each call. Opening: rows 2 ("opening an open account"), 3, those checks, 7 ("first month above
-- 1199").
unfoldable pub opening_row : Bool → Bool → Terms → PriceList → ℕ → ℕ
opening_row opened unusable t l m = first_of (row 2 opened ∷ row 3 unusable ∷ (contents_rows t l ++ row 7 (ltb last_month m) ∷ []))

-- Repricing: rows 1 ("account fresh"), 3, 4.
unfoldable pub repricing_row : Bool → Bool → PriceList → ℕ
repricing_row fresh unusable l = first_of (row 1 fresh ∷ row 3 unusable ∷ row 4 (prices_refused l) ∷ [])

-- Billing: rows 1, 3, 11 ("billing when December 2099 has been billed"), 7 ("billing a month other than the next"), 8, 9, 10, and
-- 13 (02 No. 4: "after 10").
unfoldable pub billing_row : Bool → Bool → ℕ → ℕ → Faults → ℕ
billing_row fresh unusable next m f =
    first_of
    (row 1 fresh
    ∷ row 3 unusable
    ∷ row 11 (ltb last_month next)
    ∷ row 7 (not (eqb m next))
    ∷ row 8 f.wronglength
    ∷ row 9 f.wrongdays
    ∷ row 10 f.abovelimit
    ∷ row 13 f.firstlost
    ∷ [])

-- Closing: rows 1, 3.
unfoldable pub closing_row : Bool → Bool → ℕ
closing_row fresh unusable = first_of (row 1 fresh ∷ row 3 unusable ∷ [])
