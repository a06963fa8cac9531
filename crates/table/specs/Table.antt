-- What `statement --table` prints for a printed line.
use Rattle.std.specs.Prelude.{Bool, false, cond, ◌||◌, List, [], ◌∷◌, ◌++◌, ℕ, zero, suc, ◌+◌, ◌-◌, ◌*◌, ◌/◌, ◌%◌, eqb, ltb, length, get_or, replicate}
use Rattle.text.specs.Text.{bytes_of}
use Rattle.printing.specs.Text.{digit_byte, decimal}
use Rattle.table.specs.Numbers.{capped, numbers_of, kind_of, opening, month, stop, refusal_of}
use Rattle.table.specs.Reasons.{row_of, wrong_at}

-- Texts one after the other.
abbrev pub joined : List (List ℕ) → List ℕ
joined [] = []
joined (text ∷ texts) = text ++ joined texts

-- The month of a line, as it is printed there.
abbrev pub month_parts : List ℕ → List (List ℕ)
month_parts ns = decimal (get_or ns 0 0) ∷ bytes_of "-" ∷ decimal (get_or ns 1 0 / 10) ∷ decimal (get_or ns 1 0 % 10) ∷ []

-- The k-th of the seven amounts that the headings name, in a period: critical (0), on-peak (1), off-peak (2) or discount (3). In the line
-- year, month and answer come first, and each of the seven has its four periods side by side.
abbrev pub amount : List ℕ → ℕ → ℕ → ℕ
amount ns period k = get_or ns (3 + 4 * k + period) 0

-- Its sum over the periods.
abbrev pub total : List ℕ → ℕ → ℕ
total ns k = capped (amount ns 0 k + amount ns 1 k + amount ns 2 k + amount ns 3 k)

-- The charge for energy and what is due, in cents.
abbrev pub energy : List ℕ → ℕ
energy ns = get_or ns 31 0

abbrev pub due : List ℕ → ℕ
due ns = get_or ns 32 0

-- A number for each of the seven.
abbrev pub seven : (ℕ → ℕ) → List ℕ
seven number = number 0 ∷ number 1 ∷ number 2 ∷ number 3 ∷ number 4 ∷ number 5 ∷ number 6 ∷ []

-- All numbers of a table.
unfoldable pub shown_numbers : List ℕ → List ℕ
shown_numbers ns =
    seven (amount ns 0) ++ seven (amount ns 1) ++ seven (amount ns 2) ++ seven (amount ns 3) ++ seven (total ns)
    ++ (energy ns ∷ due ns ∷ [])

-- Whether one of some numbers is above 999,999,999.
unfoldable pub any_wide : List ℕ → Bool
any_wide [] = false
any_wide (n ∷ ns) = ltb 999999999 n || any_wide ns

-- How wide the columns are: the wide ones have room for any number of 64 bits.
unfoldable pub width_of : List ℕ → ℕ
width_of ns = cond (any_wide (shown_numbers ns)) 28 13

-- The last k digits of a number, zeros in front of it included.
abbrev pub last_digits : ℕ → ℕ → List ℕ
last_digits zero n = []
last_digits (suc k) n = last_digits k (n / 10) ++ digit_byte (n % 10) ∷ []

-- A number in decimal with a comma between thousands, where it has at most 3 * k digits.
unfoldable pub thousands : ℕ → ℕ → List ℕ
thousands zero n = []
thousands (suc k) n = cond (ltb n 1000) (decimal n) (thousands k (n / 1000) ++ bytes_of "," ++ last_digits 3 n)

-- A number of 64 bits has at most 20.
abbrev pub grouped : ℕ → List ℕ
grouped n = thousands 7 n

-- A text at the right end of w bytes.
abbrev pub right_in : ℕ → List ℕ → List ℕ
right_in w text = replicate (w - length text) 32 ++ text

-- Seven headings, some numbers, and cents in dollars.
abbrev pub headings : ℕ → List (List ℕ)
headings w =
    right_in w (bytes_of "3 own") ∷ right_in w (bytes_of "4 out") ∷ right_in w (bytes_of "5 in") ∷ right_in w (bytes_of "6 paid")
    ∷ right_in w (bytes_of "7 forfeited") ∷ right_in w (bytes_of "8 billed") ∷ right_in w (bytes_of "9 left") ∷ []

abbrev pub in_columns : ℕ → List ℕ → List (List ℕ)
in_columns w [] = []
in_columns w (n ∷ ns) = right_in w (grouped n) ∷ in_columns w ns

abbrev pub dollars : ℕ → ℕ → List (List ℕ)
dollars w n = right_in (w - 3) (grouped (n / 100)) ∷ bytes_of "." ∷ last_digits 2 n ∷ []

-- The table of a month that was billed, with columns of w bytes.
unfoldable pub month_table : List ℕ → ℕ → List ℕ
month_table ns w =
    joined
    (month_parts ns ++ (bytes_of " " ∷ headings w)
    ++ (bytes_of "\ncritical" ∷ in_columns w (seven (amount ns 0)))
    ++ (bytes_of "\non-peak " ∷ in_columns w (seven (amount ns 1)))
    ++ (bytes_of "\noff-peak" ∷ in_columns w (seven (amount ns 2)))
    ++ (bytes_of "\ndiscount" ∷ in_columns w (seven (amount ns 3)))
    ++ (bytes_of "\nsum     " ∷ in_columns w (seven (total ns)))
    ++ (bytes_of "\nenergy  " ∷ dollars w (energy ns))
    ++ (bytes_of "\ndue     " ∷ dollars w (due ns))
    ++ (bytes_of "\n\n" ∷ []))

-- What is printed for a line of a kind with numbers ns that tells refusal n, and for any line.
unfoldable pub table_for : ℕ → List ℕ → ℕ → List ℕ
table_for kind ns n =
    let reason = bytes_of ": " ∷ wrong_at (row_of kind n) ∷ bytes_of "\n\n" ∷ [] in
    cond (eqb kind stop) (joined (bytes_of "stopped at line " ∷ decimal (get_or ns 0 0) ∷ bytes_of "\n\n" ∷ []))
    (cond (eqb kind opening)
    (cond (eqb n 0) (bytes_of "account opened\n\n") (joined (bytes_of "opening refused, " ∷ decimal (get_or ns 0 0) ∷ reason)))
    (cond (eqb kind month)
    (cond (eqb n 0) (month_table ns (width_of ns))
    (joined (month_parts ns ++ (bytes_of "  refused, " ∷ decimal (get_or ns 2 0) ∷ reason))))
    []))

unfoldable pub table_of : List ℕ → List ℕ
table_of l = table_for (kind_of l) (numbers_of l) (refusal_of (kind_of l) (numbers_of l))

-- A table or an explanation has at most this many bytes.
abbrev pub table_room : ℕ
table_room = 2048
