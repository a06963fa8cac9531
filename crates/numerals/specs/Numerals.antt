-- Document 01, "Day view and statement": numbers and months in the lines that `statement` reads. l is a text, as the numbers of its bytes.
-- What it gives are numbers, a month its number; none where it is unreadable.
use Rattle.std.specs.Prelude.{Bool, true, cond, ◌&&◌, List, [], ◌∷◌, map, ℕ, ◌+◌, ◌-◌, ◌*◌, ◌^◌, eqb, leb, ltb, length, get_or, take, drop}
use Rattle.calendar.specs.Calendar.{month_number}

-- The decimal digits.
abbrev pub is_digit : ℕ → Bool
is_digit b = leb 48 b && leb b 57

unfoldable pub all_digits : List ℕ → Bool
all_digits [] = true
all_digits (b ∷ l) = is_digit b && all_digits l

-- The value of digits that follow those of value v.
unfoldable pub value_after : ℕ → List ℕ → ℕ
value_after v [] = v
value_after v (b ∷ l) = value_after (v * 10 + (b - 48)) l

unfoldable pub value_of : List ℕ → ℕ
value_of l = value_after 0 l

-- "a number has 1 to 10 digits and fits 32 bits"
unfoldable pub is_number : List ℕ → Bool
is_number l = leb 1 (length l) && leb (length l) 10 && all_digits l && ltb (value_of l) (2 ^ 32)

unfoldable pub number_in : List ℕ → List ℕ
number_in l = cond (is_number l) (value_of l ∷ []) []

-- "a month is a year from 2000 to 9999, a dash and 01 to 12": four digits, a dash and two digits.
abbrev pub year_in : List ℕ → List ℕ
year_in l = take 4 l

abbrev pub month_of_year_in : List ℕ → List ℕ
month_of_year_in l = drop 5 l

unfoldable pub is_month : List ℕ → Bool
is_month l =
    eqb (length l) 7 && eqb (get_or l 4 0) 45 && is_number (year_in l) && is_number (month_of_year_in l)
    && leb 2000 (value_of (year_in l)) && leb (value_of (year_in l)) 9999
    && leb 1 (value_of (month_of_year_in l)) && leb (value_of (month_of_year_in l)) 12

unfoldable pub month_in : List ℕ → List ℕ
month_in l = cond (is_month l) (month_number (value_of (year_in l)) (value_of (month_of_year_in l)) ∷ []) []

-- The parts between commas.
abbrev pub on_first : ℕ → List (List ℕ) → List (List ℕ)
on_first b [] = []
on_first b (p ∷ ps) = (b ∷ p) ∷ ps

unfoldable pub parts_of : List ℕ → List (List ℕ)
parts_of [] = [] ∷ []
parts_of (b ∷ l) = cond (eqb b 44) ([] ∷ parts_of l) (on_first b (parts_of l))

unfoldable pub all_numbers : List (List ℕ) → Bool
all_numbers [] = true
all_numbers (p ∷ ps) = is_number p && all_numbers ps

-- So many numbers with commas between them.
unfoldable pub numbers_in : ℕ → List ℕ → List ℕ
numbers_in n l = cond (eqb (length (parts_of l)) n && all_numbers (parts_of l)) (map value_of (parts_of l)) []

-- One number or more, up to so many, with commas between them: a text has at least one part.
unfoldable pub numbers_up_to : ℕ → List ℕ → List ℕ
numbers_up_to n l = cond (leb (length (parts_of l)) n && all_numbers (parts_of l)) (map value_of (parts_of l)) []
