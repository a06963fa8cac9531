-- `hours::critical_count` counts bits, and each is a day.
use native.Mathlib.Nat.{mod-eq_of_lt}
use Rattle.hours.proofs.Days.{count_ones}
use Rattle.hours.proofs.critical_count.Goals as goal

pub returns : goal.returns
returns c = rw (count_ones c.args.critical_days 32, mod-eq_of_lt c.ranges.critical_days.fits)
