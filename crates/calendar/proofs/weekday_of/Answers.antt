-- `calendar::weekday_of` counts the days from the first one, by weeks.
use native.Mathlib.Omega.{arith}
use Rattle.calendar.specs.Calendar.{weekday_of}
use Rattle.calendar.proofs.Lengths.{first_weekday-lt}
use Rattle.calendar.proofs.weekday_of.Goals as goal

pub overflow_add-result : goal.overflow_add-result
overflow_add-result c = omega (arith, first_weekday-lt c.args.month)

pub returns : goal.returns
unfolding weekday_of
returns c = omega (arith, first_weekday-lt c.args.month)
