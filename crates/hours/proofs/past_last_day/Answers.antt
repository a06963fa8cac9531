-- `hours::past_last_day` masks the bits past the month's last day.
use native.Mathlib.Omega.{arith}
use Rattle.calendar.proofs.Laws.{days_in-le}
use Rattle.hours.specs.CriticalDays.{past_last_day}
use Rattle.hours.proofs.Days.{after_mask}
use Rattle.hours.proofs.past_last_day.Goals as goal

pub overflow_shl-result : goal.overflow_shl-result
overflow_shl-result c = omega (arith, days_in-le c.args.month)

pub returns : goal.returns
unfolding past_last_day
returns c = rw c.days_in.ensures (after_mask _ _ (omega (arith, days_in-le c.args.month)))
