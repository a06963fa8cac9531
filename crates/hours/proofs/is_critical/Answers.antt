-- `hours::is_critical` takes the day's bit; days that are no bit of the number aren't critical.
use Prim.Native.Nat.{◌-◌, ◌/◌, ◌^◌}
use native.Mathlib.Omega.{arith}
use borrow.Author.Tests.{le-leb, lt-leb}
use lib.Bits.{and_mask}
use Rattle.hours.specs.CriticalDays.{is_critical}
use Rattle.hours.proofs.Days.{far}
use Rattle.hours.proofs.is_critical.Goals as goal

pub returns-in-1-to-32 : goal.returns-in-1-to-32
unfolding is_critical
returns-in-1-to-32 c = rw (le-leb 1 c.args.day (omega arith), and_mask (c.args.critical_days / 2 ^ (c.args.day - 1)) 1)

pub returns-in_default : goal.returns-in_default
unfolding is_critical
returns-in_default c = rw (lt-leb 1 c.args.day (omega arith))

pub returns-in_default-2 : goal.returns-in_default-2
returns-in_default-2 c = far _ _ c.ranges.critical_days.fits (omega arith)
