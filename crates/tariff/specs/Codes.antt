-- The codes of the interface for C for riders and classes, and how a code is read.
use Rattle.std.specs.Prelude.{◌≡◌, cond, ℕ, ◌≤◌, ◌<◌, eqb, Result, MatchResult}
use Rattle.tariff.specs.declared.Rider.{Rider}
use Rattle.tariff.specs.declared.Rider.TheVariants.{Banked, Bridge}
use Rattle.tariff.specs.declared.Class.{Class}
use Rattle.tariff.specs.declared.Class.TheVariants.{Home, Business}
use Rattle.tariff.specs.declared.UnknownCode.{UnknownCode}

-- Riders as numbers, and the rider of a number: of each but the first code the second.
abbrev pub rider_code : Rider → ℕ
rider_code Banked = 0
rider_code Bridge = 1

abbrev pub rider_at : ℕ → Rider
rider_at n = cond (eqb n 0) Banked Bridge

-- The same of classes.
abbrev pub class_code : Class → ℕ
class_code Home = 0
class_code Business = 1

abbrev pub class_at : ℕ → Class
class_at n = cond (eqb n 0) Home Business

-- A code up to the last one is read as its value, and any other number is refused, and named.
abbrev pub Decoded : {A : Type 0} → (ℕ → A) → ℕ → ℕ → Result A UnknownCode → Type 0
Decoded at last code r = MatchResult r (λ value. (code ≤ last) × (value ≡ at code)) (λ e. (last < code) × (e.0 ≡ code))
