-- Document 01, "Day view and statement": what `statement` prints.
use Rattle.std.specs.Prelude.{List, [], ◌∷◌, ◌++◌, ℕ, ◌/◌, ◌%◌}
use Rattle.calendar.specs.Calendar.{year_of, month_of_year}
use Rattle.hours.specs.Hours.{four}
use Rattle.text.specs.Text.{bytes_of}
use Rattle.billing.specs.declared.Bill.{Bill}
use Rattle.printing.specs.Text.{filled_in}

-- "the seven energy rows by period (moved out as `out`, moved in as `in`), energy and due"
abbrev pub amounts : Bill → List ℕ
amounts b =
    four b.own
    (four b.out
    (four b.into
    (four b.paid (four b.forfeited (four b.billed (four b.left (b.charges.energy ∷ b.charges.due ∷ [])))))))

-- The line of a month's bill. "the month as entered" is a year, a dash and 01 to 12.
abbrev pub bill_template : List ℕ
bill_template =
    bytes_of "bill=#-## answer=# own=#,#,#,# out=#,#,#,# in=#,#,#,# paid=#,#,#,#"
    ++ bytes_of " forfeited=#,#,#,# billed=#,#,#,# left=#,#,#,# energy=# due=#\n"

-- "the month as entered, its number, the seven energy rows by period .., energy and due", on one line.
unfoldable pub bill_text : ℕ → ℕ → Bill → List ℕ
bill_text m n b = filled_in bill_template (year_of m ∷ month_of_year m / 10 ∷ month_of_year m % 10 ∷ n ∷ amounts b)

-- "It prints the opening's number once line 14 is read".
unfoldable pub open_text : ℕ → List ℕ
open_text n = filled_in (bytes_of "open=#\n") (n ∷ [])

-- "prints `line=` with its number counted from 1"
unfoldable pub line_text : ℕ → List ℕ
line_text n = filled_in (bytes_of "line=#\n") (n ∷ [])
