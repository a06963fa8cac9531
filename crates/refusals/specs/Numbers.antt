-- The number that the table gives each refusal, and 0 to an accepted call.
use Rattle.std.specs.Prelude.{ℕ, Result}
use Rattle.std.specs.Prelude.Result.{Ok, Err}
use Rattle.refusals.specs.declared.Refusal.{Refusal}
use Rattle.refusals.specs.declared.Refusal.TheVariants.{NotOpen, OpenAlready, Closed, PriceList, Capacity, NoBridge, Month, RegisterLength, CriticalDays, Reading, BookFull, Nameplates, FirstReadingLost}

abbrev pub number : Refusal → ℕ
number NotOpen = 1
number OpenAlready = 2
number Closed = 3
number PriceList = 4
number Capacity = 5
number NoBridge = 6
number Month = 7
number RegisterLength = 8
number CriticalDays = 9
number Reading = 10
number BookFull = 11
number Nameplates = 12
number FirstReadingLost = 13

abbrev pub number_of : {A : Type 0} → Result A Refusal → ℕ
number_of (Ok value) = 0
number_of (Err refusal) = number refusal
