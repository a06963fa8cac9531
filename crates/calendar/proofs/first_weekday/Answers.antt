-- `calendar::first_weekday` is the closed form of `Weekday`, which follows the definition month by month.
use native.Mathlib.Omega.{arith}
use Rattle.calendar.proofs.Weekday.{count, leap_days, closed}
use Rattle.calendar.proofs.first_weekday.Goals as goal

pub returns : goal.returns
unfolding count leap_days
returns c = omega (arith, closed c.args.month)
