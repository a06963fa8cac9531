-- docs/STATEMENT.md, "Refusals, and what to do", row by row; then a row for any other number, and one for `line=`.
use Rattle.std.specs.Prelude.{cond, ◌&&◌, List, [], ◌∷◌, ◌++◌, ℕ, ◌-◌, eqb, leb, get_or}
use Rattle.text.specs.Text.{bytes_of}
use Rattle.table.specs.Numbers.{opening, stop}

-- "What is wrong"
abbrev pub wrong : List (List ℕ)
wrong =
    bytes_of "the account was never opened"
    ∷ bytes_of "an amount above 1,000,000, or an energy price above the one before"
    ∷ bytes_of "a nameplate of 0, or a total above line 5, 20 kW (home), or 1,000 kW (business)"
    ∷ bytes_of "a business under the bridge rider"
    ∷ bytes_of "a first month after December 2099"
    ∷ bytes_of "not the month that is next"
    ∷ bytes_of "more or fewer readings than the month has quarter-hours"
    ∷ bytes_of "a critical day that the month doesn't have, or more than ten"
    ∷ bytes_of "a reading above 1,000,000 Wh"
    ∷ bytes_of "December 2099 was billed, and there is no month after it"
    ∷ bytes_of "the first reading of a register is lost"
    ∷ bytes_of "a refusal that this program doesn't know"
    ∷ bytes_of "not a line that can stand there, or the input ends before it"
    ∷ []

-- "What to do"
abbrev pub to_do : List (List ℕ)
to_do =
    bytes_of "repair the opening; its number is in the first line printed"
    ∷ bytes_of "correct lines 7 to 14"
    ∷ bytes_of "correct line 4 or 5"
    ∷ bytes_of "make it a home, or take the banked rider"
    ∷ bytes_of "open earlier"
    ∷ bytes_of "bill the months in order, each once, from line 1's month on"
    ∷ bytes_of "make the counts of its runs add up"
    ∷ bytes_of "add up the days again"
    ∷ bytes_of "correct the run"
    ∷ bytes_of "stop there"
    ∷ bytes_of "give a reading there; only later ones are filled in"
    ∷ bytes_of "ask the office"
    ∷ bytes_of "correct the line and run the file again"
    ∷ []

-- The row for any other number, the one for a stop, and how many there are.
abbrev pub other_row : ℕ
other_row = 11

abbrev pub stop_row : ℕ
stop_row = 12

abbrev pub row_count : ℕ
row_count = 13

-- The rows of an opening's numbers 4 to 7, of a month's 1, 7 to 11 and 13, and of a stop.
unfoldable pub opening_row : ℕ → ℕ
opening_row n = cond (leb 4 n && leb n 7) (n - 3) other_row

unfoldable pub month_row : ℕ → ℕ
month_row n = cond (eqb n 1) 0 (cond (leb 7 n && leb n 11) (n - 2) (cond (eqb n 13) 10 other_row))

unfoldable pub row_of : ℕ → ℕ → ℕ
row_of kind n = cond (eqb kind stop) stop_row (cond (eqb kind opening) (opening_row n) (month_row n))

unfoldable pub wrong_at : ℕ → List ℕ
wrong_at row = get_or wrong row []

-- What is wrong and what to do.
unfoldable pub explained_at : ℕ → List ℕ
explained_at row = wrong_at row ++ bytes_of "; " ++ get_or to_do row []
