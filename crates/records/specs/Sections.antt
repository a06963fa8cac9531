-- How terms, price lists and amounts by period are written as numbers, and read from a list w of numbers from a place on. Past the end of
-- w each number is 0. What is written is read back: theorems `terms_back`, `terms_known` and `prices_back` of proofs/Sections.antt; of terms this
-- holds where they have eight places for nameplates, and those of the code always have.
use Rattle.std.specs.Prelude.{Bool, true, false, ◌&&◌, List, [], ◌∷◌, ◌++◌, ℕ, ◌+◌, eqb, leb, get_or}
use Rattle.hours.specs.Hours.{four}
use Rattle.hours.specs.declared.ByPeriod.{ByPeriod}
use Rattle.tariff.specs.declared.Terms.{Terms}
use Rattle.tariff.specs.declared.PriceList.{PriceList}
use Rattle.tariff.specs.Tariff.{most_nameplates, eight_at}
use Rattle.tariff.specs.Codes.{rider_code, rider_at, class_code, class_at}

-- Yes or no as a number.
abbrev pub yes_code : Bool → ℕ
yes_code false = 0
yes_code true = 1

-- Four amounts, dearest first; `four` writes them.
abbrev pub four_at : List ℕ → ℕ → ByPeriod
four_at w place =
    record {
      critical = get_or w place 0;
      onpeak = get_or w (place + 1) 0;
      offpeak = get_or w (place + 2) 0;
      discount = get_or w (place + 3) 0;
    }

-- Terms: rider, class, how many nameplates, the eight places of nameplates, demand limit, assisted. The places are counted from the first of
-- these numbers.
abbrev pub rider_place : ℕ
rider_place = 0

abbrev pub class_place : ℕ
class_place = rider_place + 1

abbrev pub nameplate_count_place : ℕ
nameplate_count_place = class_place + 1

abbrev pub nameplates_place : ℕ
nameplates_place = nameplate_count_place + 1

abbrev pub limit_place : ℕ
limit_place = nameplates_place + most_nameplates

abbrev pub assisted_place : ℕ
assisted_place = limit_place + 1

abbrev pub terms_length : ℕ
terms_length = assisted_place + 1

unfoldable pub terms_numbers : Terms → List ℕ
terms_numbers t =
    rider_code t.rider
    ∷ class_code t.class
    ∷ t.count
    ∷ eight_at t.nameplates 0 0
    ++ t.limit
    ∷ yes_code t.assisted
    ∷ []

unfoldable pub terms_at : List ℕ → ℕ → Terms
terms_at w place =
    record {
      rider = rider_at (get_or w (place + rider_place) 0);
      class = class_at (get_or w (place + class_place) 0);
      count = get_or w (place + nameplate_count_place) 0;
      nameplates = eight_at w place nameplates_place;
      limit = get_or w (place + limit_place) 0;
      assisted = eqb (get_or w (place + assisted_place) 0) 1;
    }

-- Whether the codes of terms are among those above. A count, a nameplate and a demand limit may be any number; the table refuses the wrong ones.
unfoldable pub known_terms : List ℕ → ℕ → Bool
known_terms w place =
    leb (get_or w (place + rider_place) 0) 1 && leb (get_or w (place + class_place) 0) 1 && leb (get_or w (place + assisted_place) 0) 1

-- A price list: energy by period, demand, standby, bypass, credit, distribution, basic, minimum.
abbrev pub prices_length : ℕ
prices_length = 11

unfoldable pub prices_numbers : PriceList → List ℕ
prices_numbers l =
    four l.energy
    (l.demand ∷ l.standby ∷ l.bypass ∷ l.credit ∷ l.distribution ∷ l.basic ∷ l.minimum ∷ [])

unfoldable pub prices_at : List ℕ → ℕ → PriceList
prices_at w place =
    record {
      energy = four_at w place;
      demand = get_or w (place + 4) 0;
      standby = get_or w (place + 5) 0;
      bypass = get_or w (place + 6) 0;
      credit = get_or w (place + 7) 0;
      distribution = get_or w (place + 8) 0;
      basic = get_or w (place + 9) 0;
      minimum = get_or w (place + 10) 0;
    }
