-- `calendar::day_length` finds what the clocks do on the day from the month's change.
use mathlib.Core.Path.{◌∙◌}
use Rattle.calendar.proofs.Laws.{clock_of-is, day_length-is}
use Rattle.calendar.proofs.day_length.Goals as goal

pub returns : goal.returns
returns c = c.length_by.ensures ∙ day_length-is _ _ (clock_of-is _ _ _ _ c.change_of.ensures.day c.clock_on.ensures)
