-- What the private functions promise each other. No public contract cites this file.
use Rattle.std.specs.Prelude.{◌≡◌, cond, List, [], ◌∷◌, ◌++◌, ℕ, zero, suc, ◌+◌, ◌-◌, ◌/◌, ◌%◌, ◌≤◌, eqb, ltb, get_or}
use Rattle.std.specs.List.{fold}
use Rattle.text.specs.Text.{bytes_of}
use Rattle.printing.specs.Text.{digit_byte, decimal}
use Rattle.table.specs.Numbers.{with_digit, opening, month, stop}
use Rattle.table.specs.Reasons.{to_do, opening_row, month_row, other_row, stop_row}
use Rattle.table.specs.Table.{amount, total, width_of}
use Rattle.table.specs.declared.Kind.{Kind}
use Rattle.table.specs.declared.Kind.TheVariants.{Opening, Month, Stop, Other}
use Rattle.table.specs.declared.Row.{Row}
use Rattle.table.specs.declared.Row.TheVariants.{NeverOpened, Amounts, Nameplates, Business, FirstMonth, OtherMonth, Readings, CriticalDays, LargeReading, LastMonth, FirstLost, Unknown, Stopped}
use Rattle.table.specs.declared.Shown.{Shown}

-- The kind of a line with numbers ns by its first byte, with the number of the refusal that it tells; 0 is none.
abbrev pub kind_by : ℕ → List ℕ → Kind
kind_by b ns =
    cond (eqb b stop) Stop (cond (eqb b opening) (Opening (get_or ns 0 0)) (cond (eqb b month) (Month (get_or ns 2 0)) Other))

-- The number of a row of the reasons.
abbrev pub row_number : Row → ℕ
row_number NeverOpened = 0
row_number Amounts = 1
row_number Nameplates = 2
row_number Business = 3
row_number FirstMonth = 4
row_number OtherMonth = 5
row_number Readings = 6
row_number CriticalDays = 7
row_number LargeReading = 8
row_number LastMonth = 9
row_number FirstLost = 10
row_number Unknown = 11
row_number Stopped = 12

-- The row of a line's reason by its kind.
abbrev pub row_by : Kind → ℕ
row_by Stop = stop_row
row_by (Opening n) = opening_row n
row_by (Month n) = month_row n
row_by Other = other_row

unfoldable pub to_do_at : ℕ → List ℕ
to_do_at row = get_or to_do row []

-- The value of a run of digits.
abbrev pub value_of : List ℕ → ℕ
value_of run = fold with_digit 0 run

-- The numbers of a table, in its order: of each period the seven amounts (0 to 27), their sums (28 to 34), energy and due.
unfoldable pub cell_at : List ℕ → ℕ → ℕ
cell_at ns k = cond (ltb k 28) (amount ns (k / 7) (k % 7)) (cond (ltb k 35) (total ns (k % 7)) (get_or ns (k - 4) 0))

-- The width of the columns.
pub record Width (ns : List ℕ) (w : ℕ) : Type 0 where
  pub is : w ≡ width_of ns
  pub least : 13 ≤ w
  pub most : w ≤ 28

-- A number at the right end of w bytes, from the right byte by byte. j bytes of it follow them: every fourth byte is a comma, the others
-- are its digits, and once no digit is left there are blanks.
abbrev pub column_byte : ℕ → ℕ → ℕ
column_byte j n =
    cond (eqb j 0) (digit_byte (n % 10)) (cond (eqb n 0) 32 (cond (eqb (j % 4) 3) 44 (digit_byte (n % 10))))

abbrev pub column_rest : ℕ → ℕ → ℕ
column_rest j n = cond (eqb (j % 4) 3) n (n / 10)

unfoldable pub column : ℕ → ℕ → ℕ → List ℕ
column zero j n = []
column (suc w) j n = column w (suc j) (column_rest j n) ++ column_byte j n ∷ []

-- The numbers of a note: year, month in two digits, answer.
unfoldable pub plain_value : List ℕ → ℕ → ℕ
plain_value ns k =
    cond (eqb k 0) (get_or ns 0 0) (cond (eqb k 1) (get_or ns 1 0 / 10) (cond (eqb k 2) (get_or ns 1 0 % 10) (get_or ns 2 0)))

-- The columns of a table with columns of w bytes: before each heading blanks to its width, the numbers, energy and due in three parts.
unfoldable pub shown_of : List ℕ → ℕ → ℕ → Shown
shown_of ns w k =
    let cents = cell_at ns (35 + k / 3 % 2) in
    cond (ltb k 7) (record { value = 0; width = w - 13; place = 1 })
    (cond (ltb k 42) (record { value = cell_at ns (k - 7); width = w; place = 0 })
    (cond (eqb (k % 3) 0) (record { value = cents / 100; width = w - 3; place = 0 })
    (cond (eqb (k % 3) 1) (record { value = cents / 10; width = 1; place = 0 }) (record { value = cents; width = 1; place = 0 }))))

-- The text in the place of the k-th mark. Notes begin with mark 0 and tables with mark 4.
unfoldable pub marked_by : List ℕ → ℕ → ℕ → List ℕ
marked_by ns w k =
    let shown = shown_of ns w (k - 7) in
    cond (ltb k 7) (decimal (plain_value ns (k % 4))) (column shown.width shown.place shown.value)

-- A template with texts in the places of its marks `#`, counted from k on, what is wrong in the place of its `~`, and what to do in that of its `!`.
unfoldable pub filled_by : (ℕ → List ℕ) → List ℕ → List ℕ → ℕ → List ℕ → List ℕ
filled_by f what then k [] = []
filled_by f what then k (b ∷ t) =
    cond (eqb b 35) (f k ++ filled_by f what then (suc k) t)
    (cond (eqb b 126) (what ++ filled_by f what then k t)
    (cond (eqb b 33) (then ++ filled_by f what then k t) (b ∷ filled_by f what then k t)))

-- The most bytes that it has, where a mark has at most 28, and what is wrong and what to do 80 each.
unfoldable pub most_filled : List ℕ → ℕ
most_filled [] = 0
most_filled (b ∷ t) = cond (eqb b 35) 28 (cond (eqb b 126) 80 (cond (eqb b 33) 80 1)) + most_filled t

-- The template of a month's table, whose marks are counted from 4.
unfoldable pub month_template : List ℕ
month_template =
    bytes_of "#-## #        3 own#        4 out#         5 in#       6 paid#  7 forfeited#     8 billed#       9 left"
    ++ bytes_of "\ncritical#######\non-peak #######\noff-peak#######\ndiscount#######\nsum     #######"
    ++ bytes_of "\nenergy  #.##\ndue     #.##\n\n"

-- The template that is filled in for a line of a kind, and its first mark.
unfoldable pub table_template : Kind → List ℕ
table_template Stop = bytes_of "stopped at line #\n\n"
table_template (Opening n) = cond (eqb n 0) (bytes_of "account opened\n\n") (bytes_of "opening refused, #: ~\n\n")
table_template (Month n) = cond (eqb n 0) month_template (bytes_of "#-##  refused, #: ~\n\n")
table_template Other = []

unfoldable pub table_first : Kind → ℕ
table_first Stop = 0
table_first (Opening n) = 0
table_first (Month n) = cond (eqb n 0) 4 0
table_first Other = 0

-- Likewise for an explanation, whose first mark is 0.
unfoldable pub explanation_template : Kind → List ℕ
explanation_template Stop = bytes_of "line=#: ~; !\n"
explanation_template (Opening n) = cond (eqb n 0) [] (bytes_of "open=#: ~; !\n")
explanation_template (Month n) = cond (eqb n 0) [] (bytes_of "bill=#-## answer=#: ~; !\n")
explanation_template Other = []
