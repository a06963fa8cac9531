-- `calendar::readings_through` multiplies, since each day but one has as many readings.
use mathlib.Core.Path.{sym}
use native.Mathlib.Omega.{arith}
use Rattle.calendar.proofs.Lengths.{through_before, through_past, through_unchanged}
use Rattle.calendar.proofs.readings_through.Goals as goal
use Rattle.calendar.proofs.readings_through.Goals.{in_default-via-in-Some+else-change-days, in_default-via-in_default}

pub returns-in-Some : goal.returns-in-Some
returns-in-Some c = omega (arith, through_past _ _ _ c.in-Some.ensures.day c.args.days (omega arith))

pub returns-in_default : goal.returns-in_default
returns-in_default c =
    elim c.in_default.branch [
      | in_default-via-in-Some+else-change-days w ↦ sym (through_before _ _ _ w.in-Some.ensures.day _ w.if-change-days.false)
      | in_default-via-in_default w ↦ sym (through_unchanged _ w.in_default.ensures.day _)
    ]
