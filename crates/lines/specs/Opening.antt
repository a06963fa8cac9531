-- Document 01, "Day view and statement": "the first fourteen open the account". What the numbers of these lines stand for.
use Rattle.std.specs.Prelude.{cond, List, [], ◌∷◌, ℕ, ◌+◌, ◌-◌, eqb, length, get_or, take}
use Rattle.tariff.specs.declared.Rider.{Rider}
use Rattle.tariff.specs.declared.Rider.TheVariants.{Banked, Bridge}
use Rattle.tariff.specs.declared.Class.{Class}
use Rattle.tariff.specs.declared.Class.TheVariants.{Home, Business}
use Rattle.tariff.specs.declared.Terms.{Terms}
use Rattle.tariff.specs.declared.PriceList.{PriceList}
use Rattle.tariff.specs.Tariff.{most_nameplates, sum_of_all, eight_at}

-- How many numbers are kept of each line: of line 4 how many nameplates there are and eight places for them, of line 7 four prices, of every other
-- line one.
abbrev pub line_widths : List ℕ
line_widths = 1 ∷ 1 ∷ 1 ∷ (1 + most_nameplates) ∷ 1 ∷ 1 ∷ 4 ∷ 1 ∷ 1 ∷ 1 ∷ 1 ∷ 1 ∷ 1 ∷ 1 ∷ []

-- How many are kept of line k + 1.
abbrev pub width_of_line : ℕ → ℕ
width_of_line k = get_or line_widths k 0

-- The opening's numbers are kept in one list, in the order of the lines: those of line k + 1 stand behind those of the k lines before it.
abbrev pub place_of_line : ℕ → ℕ
place_of_line k = sum_of_all (take k line_widths)

abbrev pub opening_length : ℕ
opening_length = sum_of_all line_widths

-- The line of `nameplate`.
abbrev pub nameplate_line : ℕ
nameplate_line = 4

-- What is kept of line k + 1, which gives the numbers v: of the nameplate line, which "holds one to eight" (02 No. 3), how many they are and eight
-- places, 0 past the last; of every other line v.
unfoldable pub kept_of_line : ℕ → List ℕ → List ℕ
kept_of_line k v = cond (eqb (k + 1) nameplate_line) (length v ∷ eight_at v 0 0) v

-- Of such a list xs, number i that is kept of line n, both counted from 1; and the first that is kept of line n.
abbrev pub number_at : List ℕ → ℕ → ℕ → ℕ
number_at xs n i = get_or xs (place_of_line (n - 1) + (i - 1)) 0

abbrev pub first_on_line : List ℕ → ℕ → ℕ
first_on_line xs n = number_at xs n 1

-- `opens`
abbrev pub opening_month : List ℕ → ℕ
opening_month xs = first_on_line xs 1

-- "Class is `home` or `business`, rider `banked` or `bridge`, assisted `yes` or `no`": `Grammar` gives 0 for `banked`, `home` and `no`, and 1
-- for the other word.
abbrev pub rider_of : ℕ → Rider
rider_of word = cond (eqb word 0) Banked Bridge

abbrev pub class_of : ℕ → Class
class_of word = cond (eqb word 0) Home Business

-- `rider`, `class`, `nameplate`, `limit`, `assisted`
unfoldable pub opening_terms : List ℕ → Terms
opening_terms xs =
    record {
      rider = rider_of (first_on_line xs 2);
      class = class_of (first_on_line xs 3);
      count = number_at xs nameplate_line 1;
      nameplates = eight_at xs (place_of_line (nameplate_line - 1)) 1;
      limit = first_on_line xs 5;
      assisted = eqb (first_on_line xs 6) 1;
    }

-- `prices`, `demand`, `standby`, `bypass`, `credit`, `distribution`, `basic`, `minimum`
unfoldable pub opening_prices : List ℕ → PriceList
opening_prices xs =
    record {
      energy =
          record { critical = number_at xs 7 1; onpeak = number_at xs 7 2; offpeak = number_at xs 7 3; discount = number_at xs 7 4 };
      demand = first_on_line xs 8;
      standby = first_on_line xs 9;
      bypass = first_on_line xs 10;
      credit = first_on_line xs 11;
      distribution = first_on_line xs 12;
      basic = first_on_line xs 13;
      minimum = first_on_line xs 14;
    }
