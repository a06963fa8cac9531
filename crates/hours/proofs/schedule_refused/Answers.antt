-- `hours::schedule_refused` asks for the length, and then each entry.
use borrow.Author.Tests.{eq-eqb, ne_eqb}
use Rattle.hours.specs.Schedules.{schedule_refused}
use Rattle.hours.proofs.Packed.{all_entries-is}
use Rattle.hours.proofs.schedule_refused.Goals as goal

pub returns-then-schedule-ne-SCHEDULE_LENGTH : goal.returns-then-schedule-ne-SCHEDULE_LENGTH
unfolding schedule_refused
returns-then-schedule-ne-SCHEDULE_LENGTH c = rw (ne_eqb _ _ c.if-schedule-ne-SCHEDULE_LENGTH.true)

pub returns-else-schedule-ne-SCHEDULE_LENGTH : goal.returns-else-schedule-ne-SCHEDULE_LENGTH
unfolding schedule_refused
returns-else-schedule-ne-SCHEDULE_LENGTH c =
    rw (eq-eqb _ _ c.if-schedule-ne-SCHEDULE_LENGTH.false, c.all_entries.ensures, all_entries-is c.args.schedule.now)
