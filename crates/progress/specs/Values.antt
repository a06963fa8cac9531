-- What the lines of the opening give, as the numbers of `Opening`.
use Rattle.std.specs.Prelude.{cond, List, [], ◌∷◌, ◌++◌, ℕ, ◌+◌, eqb, length, take}
use Rattle.std.proofs.lemmas.List.Edits.{sets}
use Rattle.tariff.specs.declared.Rider.{Rider}
use Rattle.tariff.specs.declared.Rider.TheVariants.{Banked, Bridge}
use Rattle.tariff.specs.declared.Class.{Class}
use Rattle.tariff.specs.declared.Class.TheVariants.{Home, Business}
use Rattle.tariff.specs.declared.PriceList.{PriceList}
use Rattle.tariff.specs.Tariff.{eight_at}
use Rattle.lines.specs.Opening.{place_of_line, width_of_line, nameplate_line}
use Rattle.progress.specs.declared.opening.Opening.{Opening}

-- Of two words the first is 0.
abbrev pub rider_word : Rider → ℕ
rider_word Banked = 0
rider_word Bridge = 1

abbrev pub class_word : Class → ℕ
class_word Home = 0
class_word Business = 1

abbrev pub prices_values : PriceList → List ℕ
prices_values l =
    l.energy.critical ∷ l.energy.onpeak ∷ l.energy.offpeak ∷ l.energy.discount ∷ l.demand ∷ l.standby ∷ l.bypass ∷ l.credit ∷ l.distribution
    ∷ l.basic ∷ l.minimum ∷ []

-- In the order of the lines.
abbrev pub values_of : Opening → List ℕ
values_of o =
    o.month ∷ rider_word o.agreement.terms.rider ∷ class_word o.agreement.terms.class ∷ o.agreement.terms.count
    ∷ (eight_at o.agreement.terms.nameplates 0 0 ++ o.agreement.terms.limit ∷ cond o.agreement.terms.assisted 1 0 ∷ prices_values o.agreement.prices)

-- The opening's numbers with what is kept of a line that gives the numbers v.
unfoldable pub values_with : List ℕ → ℕ → List ℕ → List ℕ
values_with xs k v =
    sets xs (place_of_line k) (cond (eqb (k + 1) nameplate_line) (length v ∷ eight_at v 0 0) (take (width_of_line k) (eight_at v 0 0)))
