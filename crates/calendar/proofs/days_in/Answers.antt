-- `calendar::days_in` reads the table of a common year and adds the leap day.
use native.Mathlib.Omega.{arith}
use Rattle.calendar.proofs.Laws.{days_in-is, days_in-le}
use Rattle.calendar.proofs.days_in.Goals as goal

pub overflow_add-result : goal.overflow_add-result
overflow_add-result c = omega (arith, days_in-is c.args.month, days_in-le c.args.month)

pub returns : goal.returns
returns c = omega (arith, days_in-is c.args.month)
