-- `numerals::month_in` tests one part of a month after the other: `Months` has what each test says.
use Rattle.numerals.proofs.Digits.{read_none, read_some}
use Rattle.numerals.proofs.Months.{month_length_lem, month_dash, month_year, month_of_year_lem, month_is}
use Rattle.numerals.proofs.month_in.Goals as goal
use Rattle.numerals.proofs.month_in.Goals.{then-text-ne-MONTH_LENGTH-via-then-text-ne-MONTH_LENGTH, then-text-ne-MONTH_LENGTH-via-else-text-ne-MONTH_LENGTH+then-text-ne45}

pub returns-then-text-ne-MONTH_LENGTH : goal.returns-then-text-ne-MONTH_LENGTH
returns-then-text-ne-MONTH_LENGTH c = elim c.then-text-ne-MONTH_LENGTH.branch [
  | then-text-ne-MONTH_LENGTH-via-then-text-ne-MONTH_LENGTH w ↦ rw (month_length_lem c.args.text.now w.if-text-ne-MONTH_LENGTH.true)
  | then-text-ne-MONTH_LENGTH-via-else-text-ne-MONTH_LENGTH+then-text-ne45 w ↦ rw (month_dash c.args.text.now w.if-text-ne-MONTH_LENGTH.false w.if-text-ne45.true)
]

pub returns-in_err-year : goal.returns-in_err-year
returns-in_err-year c =
    let not_year = read_none _ c.in_err-year.ensures in
    rw (c.from_residual.ensures, month_year c.args.text.now c.if-text-ne-MONTH_LENGTH.false c.if-text-ne45.false not_year)

pub returns-in_err-of_year : goal.returns-in_err-of_year
returns-in_err-of_year c =
    let year = read_some _ _ c.in_ok-year.ensures in
    let not_month = read_none _ c.in_err-of_year.ensures in
    rw (c.from_residual-in_err-of_year.ensures, month_of_year_lem c.args.text.now c.if-text-ne-MONTH_LENGTH.false c.if-text-ne45.false year.0 not_month)

pub returns : goal.returns
returns c =
    let year = read_some _ _ c.in_ok-year.ensures in
    let month = read_some _ _ c.in_ok-of_year.ensures in
    rw (← (month_is c.args.text.now _ _ c.if-text-ne-MONTH_LENGTH.false c.if-text-ne45.false year.0 month.0 year.1 month.1)) c.month_of.ensures
