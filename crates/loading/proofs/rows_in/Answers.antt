-- `loading::rows_in` reads one row after the other: what the lines behind say of all lines the rows before them say too.
use Rattle.std.proofs.Common.{◌∙◌}
use Rattle.loading.proofs.Reading.{rows_all}
use Rattle.loading.proofs.rows_in.Goals as goal

pub returns-in_err-summer_weekday : goal.returns-in_err-summer_weekday
returns-in_err-summer_weekday c =
    rw c.from_residual-in_err-summer_weekday.ensures
    (c.in_ok-winter_weekday.ensures.good _ ∙ c.in_ok-winter_weekend.ensures.good _ ∙ c.in_err-summer_weekday.ensures _)

pub returns-in_err-summer_weekend : goal.returns-in_err-summer_weekend
returns-in_err-summer_weekend c =
    rw c.from_residual-in_err-summer_weekend.ensures
    (c.in_ok-winter_weekday.ensures.good _ ∙ c.in_ok-winter_weekend.ensures.good _ ∙ c.in_ok-summer_weekday.ensures.good _ ∙ c.in_err-summer_weekend.ensures _)

pub returns : goal.returns
returns c =
    rw c.then_some.ensures
    (rows_all c.in_ok-winter_weekday.ensures c.in_ok-winter_weekend.ensures c.in_ok-summer_weekday.ensures c.in_ok-summer_weekend.ensures _ c.is_empty.ensures)
