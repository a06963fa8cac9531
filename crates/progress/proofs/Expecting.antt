-- Which line is expected, over plain values.
use mathlib.Core.Path.{◌≡◌, refl}
use mathlib.Core.Bool.{false}
use Prim.Native.Nat.{◌≤◌, ◌<◌}
use native.Mathlib.Omega.{arith}
use borrow.Author.Tests.{le-ltb}
use lib.Dec.{ltb}
use Rattle.progress.specs.declared.expected.OpeningLine.{OpeningLine}
use Rattle.progress.specs.declared.expected.OpeningLine.TheVariants.{Opens, Rider, Class, Nameplates, Limit, Assisted, Prices, Demand, Standby, Bypass, Credit, Distribution, Basic, Minimum}
use Rattle.progress.specs.declared.expected.Expected.{Expected}
use Rattle.progress.specs.declared.expected.Expected.TheVariants.{Opening, Bill, Critical, Run, Stopped}
use Rattle.progress.specs.Expected.{line_place, number_of}

-- Lines of the opening are before all others.
pub line_below : (l : OpeningLine) → line_place l < 14
line_below Opens = omega arith
line_below Rider = omega arith
line_below Class = omega arith
line_below Nameplates = omega arith
line_below Limit = omega arith
line_below Assisted = omega arith
line_below Prices = omega arith
line_below Demand = omega arith
line_below Standby = omega arith
line_below Bypass = omega arith
line_below Credit = omega arith
line_below Distribution = omega arith
line_below Basic = omega arith
line_below Minimum = omega arith

-- Only `Stopped` is above `Run`.
pub not_stopped : (e : Expected) → (e ≡ Stopped → ⊥) → ltb 16 (number_of e) ≡ false
not_stopped (Opening l) n = let h = line_below l in le-ltb 16 (line_place l) (omega arith)
not_stopped Bill n = refl
not_stopped Critical n = refl
not_stopped Run n = refl
not_stopped Stopped n = absurd (n refl)

-- After a line of the opening that isn't the last another one is expected.
pub not_bill : (e : Expected) → (e ≡ Bill → ⊥) → number_of e ≤ 14 → number_of e < 14
not_bill (Opening l) n h = line_below l
not_bill Bill n h = absurd (n refl)
not_bill Critical n h = absurd (omega arith)
not_bill Run n h = absurd (omega arith)
not_bill Stopped n h = absurd (omega arith)

pub not_run : (e : Expected) → (e ≡ Run → ⊥) → number_of e ≡ 16 → ⊥
not_run (Opening l) n h = let k = line_below l in omega arith
not_run Bill n h = omega arith
not_run Critical n h = omega arith
not_run Run n h = n refl
not_run Stopped n h = omega arith
