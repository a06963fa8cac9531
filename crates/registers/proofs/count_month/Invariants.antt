use mathlib.Core.Path.{◌≡◌}
use Rattle.calendar.specs.Calendar.{readings_through}
use Rattle.registers.specs.Counting.{Counted}
use Rattle.registers.proofs.count_month.Given as goal

abbrev pub invariant-loop-before : goal.invariant-loop-before
invariant-loop-before l = (l.start ≡ readings_through l.month l.before) × Counted l.schedule l.month l.critical_days l.register l.before l.count
