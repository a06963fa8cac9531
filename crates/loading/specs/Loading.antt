-- 02 No. 7: "A schedule is loaded from four key=value lines". text are the numbers of the bytes that are loaded, and table has the entries of the lent
-- table before it. What a line gives are entries; none where it is of another form.
use Rattle.std.specs.Prelude.{Bool, true, false, cond, not, ◌&&◌, List, [], ◌∷◌, ◌++◌, map, ℕ, ◌+◌, ◌-◌, eqb, leb, length, take, drop}
use Rattle.calendar.specs.declared.Season.TheVariants.{Winter, Summer}
use Rattle.calendar.specs.declared.DayKind.TheVariants.{Weekday, Weekend}
use Rattle.hours.specs.Hours.{row_start}
use Rattle.hours.specs.Schedules.{schedule_length}
use Rattle.text.specs.Text.{bytes_of, lines_from}
use Rattle.grammar.specs.Grammar.{keyed}

-- "Each value is 96 digits, 1 to 3, a period each": the digit 1 is byte 49. "The lent table takes them as numbers".
abbrev pub is_period_digit : ℕ → Bool
is_period_digit b = leb 49 b && leb b 51

unfoldable pub all_period_digits : List ℕ → Bool
all_period_digits [] = true
all_period_digits (b ∷ l) = is_period_digit b && all_period_digits l

unfoldable pub periods_in : List ℕ → List ℕ
periods_in l = cond (eqb (length l) 96 && all_period_digits l) (map (λ b. b - 48) l) []

-- "winter-weekday, winter-weekend, summer-weekday, summer-weekend", in this order.
abbrev pub schedule_lines : List (List ℕ → List ℕ)
schedule_lines =
    keyed (bytes_of "winter-weekday=") periods_in
    ∷ keyed (bytes_of "winter-weekend=") periods_in
    ∷ keyed (bytes_of "summer-weekday=") periods_in
    ∷ keyed (bytes_of "summer-weekend=") periods_in
    ∷ []

-- Whether each line is good: "any line missing, too many, out of order or of another form" is not.
unfoldable pub all_good : List (List ℕ → List ℕ) → List (List ℕ) → Bool
all_good [] [] = true
all_good [] (l ∷ ls) = false
all_good (read ∷ reads) [] = false
all_good (read ∷ reads) (l ∷ ls) = not (eqb (length (read l)) 0) && all_good reads ls

-- What they give, "in line order".
unfoldable pub all_given : List (List ℕ → List ℕ) → List (List ℕ) → List ℕ
all_given [] ls = []
all_given (read ∷ reads) [] = []
all_given (read ∷ reads) (l ∷ ls) = read l ++ all_given reads ls

-- Row 15 of the table of refusals, "by a load with any line missing, too many, out of order or of another form, or a lent table not of 384 entries". "the last line
-- may lack its newline": `lines_from`.
unfoldable pub load_refused : List ℕ → List ℕ → Bool
load_refused text table = not (eqb (length table) schedule_length && all_good schedule_lines (lines_from [] text))

-- The number that a load answers, and the table after it: "A load changes its lent table only when all four lines are good."
unfoldable pub load_number : List ℕ → List ℕ → ℕ
load_number text table = cond (load_refused text table) 15 0

unfoldable pub table_after : List ℕ → List ℕ → List ℕ
table_after text table = cond (load_refused text table) table (all_given schedule_lines (lines_from [] text))

-- The text that a schedule is written as, without the newline of its last line: each key with the digits of the 96 entries that are the row of its season and day
-- kind. A load finds the schedule again, and takes no other text: theorems `written_is_loaded` and `loaded_is_written`.
abbrev pub newline : List ℕ
newline = 10 ∷ []

unfoldable pub line_of : List ℕ → List ℕ → List ℕ
line_of key entries = key ++ map (λ p. p + 48) entries

unfoldable pub text_of : List ℕ → List ℕ
text_of s =
    line_of (bytes_of "winter-weekday=") (take 96 (drop (row_start Winter Weekday) s))
    ++ newline
    ++ line_of (bytes_of "winter-weekend=") (take 96 (drop (row_start Winter Weekend) s))
    ++ newline
    ++ line_of (bytes_of "summer-weekday=") (take 96 (drop (row_start Summer Weekday) s))
    ++ newline
    ++ line_of (bytes_of "summer-weekend=") (take 96 (drop (row_start Summer Weekend) s))
