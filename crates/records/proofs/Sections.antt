-- What is written of terms or of a price list is read back from any place on, and the codes of terms are known. A request that widens one of
-- them changes its laws here, and nothing in the crates that use them.
use mathlib.Core.Path.{◌≡◌, refl}
use mathlib.Core.Bool.{Bool, true, false}
use mathlib.Core.List.{List, ◌++◌, append_assoc}
use Prim.Native.Nat.{ℕ, ◌+◌}
use native.Mathlib.Nat.{add-zero}
use lib.Dec.{eqb, leb}
use lib.ListN.{length, get_or}
use lib.Seq.{get_or-append-add}
use Rattle.tariff.specs.declared.Rider.{Rider}
use Rattle.tariff.specs.declared.Rider.TheVariants.{Banked, Bridge}
use Rattle.tariff.specs.declared.Class.{Class}
use Rattle.tariff.specs.declared.Class.TheVariants.{Home, Business}
use Rattle.tariff.specs.declared.Terms.{Terms}
use Rattle.tariff.specs.declared.PriceList.{PriceList}
use Rattle.tariff.specs.Tariff.{most_nameplates}
use Rattle.tariff.proofs.Laws.{eight_back}
use Rattle.tariff.specs.Codes.{rider_code, rider_at, class_code, class_at}
use Rattle.records.specs.Sections.{yes_code}
use Rattle.records.specs.Sections.{terms_length, terms_numbers, terms_at, known_terms, prices_length, prices_numbers, prices_at}

rider_known : (r : Rider) → leb (rider_code r) 1 ≡ true
rider_known Banked = refl
rider_known Bridge = refl

rider_back : (r : Rider) → rider_at (rider_code r) ≡ r
rider_back Banked = refl
rider_back Bridge = refl

class_known : (k : Class) → leb (class_code k) 1 ≡ true
class_known Home = refl
class_known Business = refl

class_back : (k : Class) → class_at (class_code k) ≡ k
class_back Home = refl
class_back Business = refl

yes_known : (b : Bool) → leb (yes_code b) 1 ≡ true
yes_known true = refl
yes_known false = refl

yes_back : (b : Bool) → eqb (yes_code b) 1 ≡ b
yes_back true = refl
yes_back false = refl

-- Terms that are read have eight places.
pub eight_read : (w : List ℕ) (place : ℕ) → length (terms_at w place).nameplates ≡ most_nameplates
unfolding terms_at
eight_read w place = refl

pub terms_long : (t : Terms) → length (terms_numbers t) ≡ terms_length
unfolding terms_numbers
terms_long t = refl

pub prices_long : (l : PriceList) → length (prices_numbers l) ≡ prices_length
unfolding prices_numbers
prices_long l = refl

-- Numbers xs stand before the place, and ys after what is read.
module _ (xs : List ℕ) (place : ℕ) (at : length xs ≡ place) where
  first : (ys : List ℕ) → get_or (xs ++ ys) place 0 ≡ get_or ys 0 0
  first ys = rw (← at, ← (add-zero (length xs))) (get_or-append-add xs ys 0 0)

  pub later : (ys : List ℕ) (n : ℕ) → get_or (xs ++ ys) (place + n) 0 ≡ get_or ys n 0
  later ys n = rw (← at) (get_or-append-add xs ys n 0)

  pub terms_back : (t : Terms) (ys : List ℕ) → length t.nameplates ≡ most_nameplates → terms_at (xs ++ terms_numbers t ++ ys) place ≡ t
  unfolding terms_numbers terms_at
  terms_back t ys eight =
      let zs = terms_numbers t ++ ys in
      rw (
        append_assoc xs (terms_numbers t) ys,
        later zs 0,
        later zs 1,
        later zs 2,
        later zs 3,
        later zs 4,
        later zs 5,
        later zs 6,
        later zs 7,
        later zs 8,
        later zs 9,
        later zs 10,
        later zs 11,
        later zs 12,
        rider_back t.rider,
        class_back t.class,
        eight_back t.nameplates eight,
        yes_back t.assisted,
      )

  pub terms_known : (t : Terms) (ys : List ℕ) → known_terms (xs ++ terms_numbers t ++ ys) place ≡ true
  unfolding terms_numbers known_terms
  terms_known t ys =
      let zs = terms_numbers t ++ ys in
      rw (
        append_assoc xs (terms_numbers t) ys,
        later zs 0,
        later zs 1,
        later zs 12,
        rider_known t.rider,
        class_known t.class,
        yes_known t.assisted,
      )

  pub prices_back : (l : PriceList) (ys : List ℕ) → prices_at (xs ++ prices_numbers l ++ ys) place ≡ l
  unfolding prices_numbers prices_at
  prices_back l ys =
      let zs = prices_numbers l ++ ys in
      rw (
        append_assoc xs (prices_numbers l) ys,
        first zs,
        later zs 1,
        later zs 2,
        later zs 3,
        later zs 4,
        later zs 5,
        later zs 6,
        later zs 7,
        later zs 8,
        later zs 9,
        later zs 10,
      )
