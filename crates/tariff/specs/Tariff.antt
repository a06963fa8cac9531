-- Document 01, "Account and price list" and refusals 4, 5 and 6 of the table, with 02 No. 3 and its refusal 12: terms and price lists that an
-- opening takes.
use Rattle.std.specs.Prelude.{Bool, true, false, ◌&&◌, ◌||◌, List, [], ◌∷◌, ℕ, ◌+◌, ltb, get_or, take}
use Rattle.hours.specs.declared.ByPeriod.{ByPeriod}
use Rattle.tariff.specs.declared.Rider.{Rider}
use Rattle.tariff.specs.declared.Rider.TheVariants.{Banked, Bridge}
use Rattle.tariff.specs.declared.Class.{Class}
use Rattle.tariff.specs.declared.Class.TheVariants.{Home, Business}
use Rattle.tariff.specs.declared.Terms.{Terms}
use Rattle.tariff.specs.declared.PriceList.{PriceList}

-- "each of these nine at most 1,000,000": a price, in hundred-thousandths of a dollar per kWh or per kW.
abbrev pub price_limit : ℕ
price_limit = 1000000

-- "Basic and minimum are in cents, each at most 1,000,000."
abbrev pub amount_limit : ℕ
amount_limit = 1000000

-- Whether one of some numbers is above a limit.
abbrev pub some_over : ℕ → List ℕ → Bool
some_over limit [] = false
some_over limit (x ∷ xs) = ltb limit x || some_over limit xs

-- The nine prices: four for energy, and those for demand, standby, bypass, credit and distribution.
abbrev pub nine_prices : PriceList → List ℕ
nine_prices l =
    l.energy.critical ∷ l.energy.onpeak ∷ l.energy.offpeak ∷ l.energy.discount
    ∷ l.demand ∷ l.standby ∷ l.bypass ∷ l.credit ∷ l.distribution ∷ []

-- "four energy prices, none above the one before it": whether one is.
unfoldable pub prices_rise : ByPeriod → Bool
prices_rise e = ltb e.critical e.onpeak || ltb e.onpeak e.offpeak || ltb e.offpeak e.discount

-- Refusal 4: "a price or amount above its limit, or an energy price above the one before". "All eleven are checked under both riders": the
-- terms don't matter.
unfoldable pub prices_refused : PriceList → Bool
prices_refused l =
    some_over price_limit (nine_prices l) || some_over amount_limit (l.basic ∷ l.minimum ∷ []) || prices_rise l.energy

-- 02 No. 3: "The terms hold one to eight nameplates." They have eight places, those of the code always, and a count, and the nameplates stand in
-- the first places, as many as the count says. What stands past them is no nameplate.
abbrev pub most_nameplates : ℕ
most_nameplates = 8

unfoldable pub nameplates_of : Terms → List ℕ
nameplates_of t = take t.count t.nameplates

-- Refusal 12 (02 No. 3): "none or more than eight nameplates".
unfoldable pub nameplates_refused : Terms → Bool
nameplates_refused t = ltb t.count 1 || ltb most_nameplates t.count

-- The sum of some numbers.
abbrev pub sum_of_all : List ℕ → ℕ
sum_of_all [] = 0
sum_of_all (x ∷ xs) = x + sum_of_all xs

-- The total nameplate, in W. 02 No. 3: "Every limit, standby, bypass and the 8,000 W exemption use the total."
unfoldable pub total_nameplate : Terms → ℕ
total_nameplate t = sum_of_all (nameplates_of t)

-- Whether one of some numbers is below a least one.
abbrev pub some_under : ℕ → List ℕ → Bool
some_under least [] = false
some_under least (x ∷ xs) = ltb x least || some_under least xs

-- 02 No. 3: "Each is at least 1 W", and "a nameplate of 0 stays 5": whether one is less.
unfoldable pub some_below_one : Terms → Bool
some_below_one t = some_under 1 (nameplates_of t)

-- "up to 20,000 W for a home or 1,000,000 W for a business"
abbrev pub class_limit : Class → ℕ
class_limit Home = 20000
class_limit Business = 1000000

-- The limit beside the demand limit: that of the class.
unfoldable pub capacity_limit : Terms → ℕ
capacity_limit t = class_limit t.class

-- Refusal 5: "nameplate outside its limits", which are "1 W up to the demand limit, and also up to" the limit beside it; with 02 No. 3 the 1 W is
-- a rule on each nameplate and the upper limits are rules on the total.
unfoldable pub capacity_refused : Terms → Bool
capacity_refused t = some_below_one t || ltb t.limit (total_nameplate t) || ltb (capacity_limit t) (total_nameplate t)

-- "Terms: rider (banked or bridge), class (home or business)": each as a test.
abbrev pub is_banked : Rider → Bool
is_banked Banked = true
is_banked Bridge = false

abbrev pub is_bridge : Rider → Bool
is_bridge Banked = false
is_bridge Bridge = true

abbrev pub is_business : Class → Bool
is_business Home = false
is_business Business = true

-- Refusal 6: "bridge rider for a business".
unfoldable pub bridge_refused : Terms → Bool
bridge_refused t = is_bridge t.rider && is_business t.class

-- The eight places of terms as they stand among other numbers: eight numbers of xs from the k-th after a start on; 0 past the end of xs.
abbrev pub eight_at : List ℕ → ℕ → ℕ → List ℕ
eight_at xs start k =
    get_or xs (start + k) 0 ∷ get_or xs (start + (k + 1)) 0 ∷ get_or xs (start + (k + 2)) 0 ∷ get_or xs (start + (k + 3)) 0
    ∷ get_or xs (start + (k + 4)) 0 ∷ get_or xs (start + (k + 5)) 0 ∷ get_or xs (start + (k + 6)) 0 ∷ get_or xs (start + (k + 7)) 0 ∷ []
