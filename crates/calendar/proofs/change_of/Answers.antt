-- `calendar::change_of` tests the year and then the month: `Lengths` has each case.
use borrow.Author.Rules.{rules}
use native.Mathlib.Omega.{arith}
use Rattle.calendar.proofs.Lengths.{first_weekday-lt, early_changes, other_changes, march_changes, november_changes}
use Rattle.calendar.proofs.change_of.Goals as goal

pub returns-then-year-lt-FIRST_YEAR-clause-day : goal.returns-then-year-lt-FIRST_YEAR-clause-day
returns-then-year-lt-FIRST_YEAR-clause-day c = early_changes _ (omega arith)

pub overflow_sub-result : goal.overflow_sub-result
overflow_sub-result c = omega (arith, first_weekday-lt c.args.month)

pub returns-in-3-clause-day : goal.returns-in-3-clause-day
returns-in-3-clause-day c = rw c.first_weekday-first.ensures (march_changes _ (omega arith) (omega arith))

pub overflow_sub-result-in-11 : goal.overflow_sub-result-in-11
overflow_sub-result-in-11 c = omega (arith, first_weekday-lt c.args.month)

pub returns-in-11-clause-day : goal.returns-in-11-clause-day
returns-in-11-clause-day c = rw c.first_weekday-first.ensures (november_changes _ (omega arith) (omega arith))

pub returns-in_default-clause-day : goal.returns-in_default-clause-day
returns-in_default-clause-day c = other_changes _ (λ e. search rules) (λ e. search rules)
