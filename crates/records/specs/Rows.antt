-- How an answer is written.
use Rattle.std.specs.Prelude.{List, [], ◌∷◌, ℕ, ◌+◌, ◌*◌}
use Rattle.hours.specs.Hours.{four}
use Rattle.charges.specs.declared.Charges.{Charges}
use Rattle.records.specs.declared.Answer.{Answer}

-- The money lines of a bill, and then other numbers.
abbrev pub lines_length : ℕ
lines_length = 10

abbrev pub lines : Charges → List ℕ → List ℕ
lines c rest =
    c.energy ∷ c.demand ∷ c.standby ∷ c.bypass ∷ c.shortfall ∷ c.gross ∷ c.granted ∷ c.used ∷ c.due ∷ c.standing ∷ rest

-- How many numbers a row has: the number, eleven amounts by period, the money lines, an amount by period and a sum of money.
abbrev pub row_length : ℕ
row_length = 1 + 11 * 4 + lines_length + 4 + 1

-- The row of an answer: its number; of the bill, four for each amount by period, then the money lines; of a closing, what it forfeits
-- and refunds.
abbrev pub row_of : Answer → List ℕ
row_of x =
    x.number
    ∷ four x.bill.forfeited
    (four x.bill.delivered
    (four x.bill.exported
    (four x.bill.own
    (four x.bill.credit
    (four x.bill.need
    (four x.bill.out
    (four x.bill.into
    (four x.bill.billed
    (four x.bill.left
    (four x.bill.paid
    (lines x.bill.charges
    (four x.amounts.forfeited (x.amounts.refunded ∷ [])))))))))))))
