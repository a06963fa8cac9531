-- A part of the table that refuses a call has a number of its own to give, so the rows after it don't.
use Rattle.std.proofs.Common.{◌<◌, arith}
use Rattle.refusals.specs.declared.Refusal.{Refusal}
use Rattle.refusals.specs.declared.Refusal.TheVariants.{NotOpen, OpenAlready, Closed, PriceList, Capacity, NoBridge, Month, RegisterLength, CriticalDays, Reading, BookFull, Nameplates, FirstReadingLost}
use Rattle.refusals.specs.Numbers.{number}

-- No refusal has the number of an accepted call.
pub number_above : (r : Refusal) → 0 < number r
number_above NotOpen = omega arith
number_above OpenAlready = omega arith
number_above Closed = omega arith
number_above PriceList = omega arith
number_above Capacity = omega arith
number_above NoBridge = omega arith
number_above Month = omega arith
number_above RegisterLength = omega arith
number_above CriticalDays = omega arith
number_above Reading = omega arith
number_above BookFull = omega arith
number_above Nameplates = omega arith
number_above FirstReadingLost = omega arith
