-- `hours::fixed_schedule`: the table's window rule by one computed test, since antt unpacks the 96 bytes, computes the 384 entries from the windows and
-- compares them.
use mathlib.Core.Path.{refl, ◌∙◌}
use Rattle.hours.specs.Hours.{fixed_schedule, windows, window_period, is_on_peak}
use Rattle.hours.specs.Packing.{byte_at, entry_of, unpacked}
use Rattle.hours.proofs.fixed_schedule.Goals as goal

pub returns : goal.returns
unfolding fixed_schedule windows window_period is_on_peak byte_at entry_of unpacked
returns c = c.unpack.ensures ∙ refl
