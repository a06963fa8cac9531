-- What callers know of a price list and of terms that are not refused.
use mathlib.Core.Path.{◌≡◌, refl}
use mathlib.Core.Bool.{Bool, true, false, ◌||◌}
use mathlib.Core.List.{List, [], ◌∷◌}
use Prim.Native.Nat.{ℕ, zero, suc, ◌-◌, ◌^◌, ◌≤◌, ◌<◌, min}
use native.Mathlib.Omega.{arith}
use borrow.Author.Tests.{ltb-false, le-leb, lt-leb, leb-true, leb-false}
use lib.Dec.{leb, ltb}
use lib.ListN.{length, get_or}
use Rattle.std.proofs.lemmas.Bool.{or_parts}
use Rattle.tariff.specs.declared.Class.{Class}
use Rattle.tariff.specs.declared.Class.TheVariants.{Home, Business}
use Rattle.tariff.specs.declared.Terms.{Terms}
use Rattle.tariff.specs.declared.PriceList.{PriceList}
use Rattle.tariff.specs.Tariff.{price_limit, amount_limit, some_over, nine_prices, prices_rise, prices_refused, most_nameplates, eight_at}
use Rattle.tariff.specs.Tariff.{total_nameplate, some_below_one, class_limit, capacity_limit, capacity_refused}

-- Where no number is above the limit, each is at most the limit.
none_over : (limit : ℕ) (xs : List ℕ) → some_over limit xs ≡ false → (i : ℕ) → get_or xs i 0 ≤ limit
none_over limit [] h i = omega arith
none_over limit (x ∷ xs) h zero = ltb-false limit x (or_parts (ltb limit x) (some_over limit xs) h).0
none_over limit (x ∷ xs) h (suc i) = none_over limit xs (or_parts (ltb limit x) (some_over limit xs) h).1 i

-- A price list within its limits: the nine prices, the two amounts, and the order of the energy prices.
pub record WithinLimits (l : PriceList) : Type 0 where
  pub critical : l.energy.critical ≤ price_limit
  pub onpeak : l.energy.onpeak ≤ price_limit
  pub offpeak : l.energy.offpeak ≤ price_limit
  pub discount : l.energy.discount ≤ price_limit
  pub demand : l.demand ≤ price_limit
  pub standby : l.standby ≤ price_limit
  pub bypass : l.bypass ≤ price_limit
  pub credit : l.credit ≤ price_limit
  pub distribution : l.distribution ≤ price_limit
  pub basic : l.basic ≤ amount_limit
  pub minimum : l.minimum ≤ amount_limit
  pub onpeak_falls : l.energy.onpeak ≤ l.energy.critical
  pub offpeak_falls : l.energy.offpeak ≤ l.energy.onpeak
  pub discount_falls : l.energy.discount ≤ l.energy.offpeak

pub within_limits : (l : PriceList) → prices_refused l ≡ false → WithinLimits l
unfolding prices_refused prices_rise
within_limits l h =
    let prices : Bool = some_over price_limit (nine_prices l) in
    let amounts : Bool = some_over amount_limit (l.basic ∷ l.minimum ∷ []) in
    let onpeak : Bool = ltb l.energy.critical l.energy.onpeak in
    let offpeak : Bool = ltb l.energy.onpeak l.energy.offpeak in
    let discount : Bool = ltb l.energy.offpeak l.energy.discount in
    let (limits, order) = or_parts (prices || amounts) (onpeak || offpeak || discount) h in
    let (low_prices, low_amounts) = or_parts prices amounts limits in
    let (first, third) = or_parts (onpeak || offpeak) discount order in
    let (one, two) = or_parts onpeak offpeak first in
    let price : (i : ℕ) → get_or (nine_prices l) i 0 ≤ price_limit = none_over price_limit (nine_prices l) low_prices in
    let amount : (i : ℕ) → get_or (l.basic ∷ l.minimum ∷ []) i 0 ≤ amount_limit =
    none_over amount_limit (l.basic ∷ l.minimum ∷ []) low_amounts in
    record {
      critical = price 0;
      onpeak = price 1;
      offpeak = price 2;
      discount = price 3;
      demand = price 4;
      standby = price 5;
      bypass = price 6;
      credit = price 7;
      distribution = price 8;
      basic = amount 0;
      minimum = amount 1;
      onpeak_falls = ltb-false _ _ one;
      offpeak_falls = ltb-false _ _ two;
      discount_falls = ltb-false _ _ third;
    }

-- Of eight numbers the eight from the front are all.
pub eight_back : (xs : List ℕ) → length xs ≡ most_nameplates → eight_at xs 0 0 ≡ xs
eight_back [] e = absurd (omega arith)
eight_back (a ∷ []) e = absurd (omega arith)
eight_back (a ∷ b ∷ []) e = absurd (omega arith)
eight_back (a ∷ b ∷ c ∷ []) e = absurd (omega arith)
eight_back (a ∷ b ∷ c ∷ d ∷ []) e = absurd (omega arith)
eight_back (a ∷ b ∷ c ∷ d ∷ f ∷ []) e = absurd (omega arith)
eight_back (a ∷ b ∷ c ∷ d ∷ f ∷ g ∷ []) e = absurd (omega arith)
eight_back (a ∷ b ∷ c ∷ d ∷ f ∷ g ∷ h ∷ []) e = absurd (omega arith)
eight_back (a ∷ b ∷ c ∷ d ∷ f ∷ g ∷ h ∷ i ∷ []) e = refl
eight_back (a ∷ b ∷ c ∷ d ∷ f ∷ g ∷ h ∷ i ∷ j ∷ xs) e = absurd (omega arith)

-- No limit beside the demand limit is above that of a business.
class_limit-le : (k : Class) → class_limit k ≤ class_limit Business
class_limit-le Home = omega arith
class_limit-le Business = omega arith

pub capacity_limit-le : (t : Terms) → capacity_limit t ≤ class_limit Business
unfolding capacity_limit
capacity_limit-le t = class_limit-le t.class

-- An accepted total nameplate is at most the demand limit and the limit beside it, and so at most the limit of a business.
pub record NameplateWithin (t : Terms) : Type 0 where
  pub demand : total_nameplate t ≤ t.limit
  pub capacity : total_nameplate t ≤ capacity_limit t
  pub most : total_nameplate t ≤ class_limit Business

pub nameplate_within : (t : Terms) → capacity_refused t ≡ false → NameplateWithin t
unfolding capacity_refused
nameplate_within t h =
    let least : Bool = some_below_one t in
    let demand : Bool = ltb t.limit (total_nameplate t) in
    let class : Bool = ltb (capacity_limit t) (total_nameplate t) in
    let (both, below) = or_parts (least || demand) class h in
    let capacity : total_nameplate t ≤ capacity_limit t = ltb-false _ _ below in
    record {
      demand = ltb-false _ _ (or_parts least demand both).1;
      capacity = capacity;
      most = omega (arith, capacity, capacity_limit-le t);
    }

-- The total nameplate as the code has it, up to the largest number of 64 bits, is within a smaller limit where the total is.
pub capped_within : (n r limit : ℕ) → r ≡ min n (2 ^ 64 - 1) → limit < 2 ^ 64 - 1 → leb r limit ≡ leb n limit
capped_within n r limit e h = by (leb n limit) refl
  where
    by : (t : Bool) → leb n limit ≡ t → leb r limit ≡ t
    by true f = le-leb r limit (omega (arith, leb-true n limit f))
    by false f = lt-leb r limit (omega (arith, leb-false n limit f))
