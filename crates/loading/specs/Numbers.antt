-- The number that the table of refusals gives a load: 0 where it is accepted, and else 15.
use Rattle.std.specs.Prelude.{ℕ, Result}
use Rattle.std.specs.Prelude.Result.{Ok, Err}
use Rattle.loading.specs.declared.ScheduleRefused.{ScheduleRefused}

abbrev pub number_of : Result (Unit {0}) ScheduleRefused → ℕ
number_of (Ok loaded) = 0
number_of (Err refused) = 15
