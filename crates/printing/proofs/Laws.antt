-- How long the texts are: each fits where there is room.
use mathlib.Core.Path.{◌≡◌}
use mathlib.Core.Bool.{Bool, true, false, cond}
use mathlib.Core.List.{List, [], ◌∷◌, ◌++◌}
use Prim.Native.Nat.{ℕ, ◌+◌, ◌/◌, ◌%◌, ◌≤◌}
use native.Mathlib.Omega.{arith}
use lib.Dec.{eqb, lit≤}
use lib.ListN.{length, length-append}
use Rattle.calendar.specs.Calendar.{year_of, month_of_year}
use Rattle.billing.specs.declared.Bill.{Bill}
use Rattle.text.specs.Text.{bytes_of}
use Rattle.printing.specs.Text.{decimal, mark, filled_in, most_bytes}
use Rattle.printing.specs.Printing.{amounts, bill_template, bill_text, open_text, line_text}
use Rattle.printing.specs.Writing.{Put}
use Rattle.printing.proofs.Writing.{digits_length}

-- A number is put, or a byte.
either : (m : Bool) (xs ys : List ℕ) (k : ℕ) → length xs ≤ 20 + k → length ys ≤ 1 + k → length (cond m xs ys) ≤ cond m 20 1 + k
either true xs ys k h l = h
either false xs ys k h l = l

-- A template filled in has at most 20 bytes for each mark.
pub filled_within : (t ns : List ℕ) → length (filled_in t ns) ≤ most_bytes t
unfolding filled_in most_bytes
filled_within [] ns = omega arith
filled_within (b ∷ t) [] =
    let h = filled_within t [] in
    either (eqb b mark) (filled_in t []) (b ∷ filled_in t []) (most_bytes t) (omega arith) (omega arith)
filled_within (b ∷ t) (n ∷ ns) =
    let h = filled_within t ns in
    let l = filled_within t (n ∷ ns) in
    either (eqb b mark) (decimal n ++ filled_in t ns) (b ∷ filled_in t (n ∷ ns)) (most_bytes t)
    (rw length-append (omega (arith, digits_length 20 n)))
    (omega arith)

-- A template fits where there is room.
template_fits : (t ns : List ℕ) {k : ℕ} → most_bytes t ≤ k → length (filled_in t ns) ≤ k
template_fits t ns h = omega (arith, filled_within t ns)

-- The line of a month has at most 774 bytes, and the others 26.
pub bill_most : most_bytes bill_template ≤ 1024
unfolding most_bytes
bill_most = lit≤ tt

pub open_most : most_bytes (bytes_of "open=#\n") ≤ 1024
unfolding most_bytes
open_most = lit≤ tt

pub line_most : most_bytes (bytes_of "line=#\n") ≤ 1024
unfolding most_bytes
line_most = lit≤ tt

-- Each text fits where there is room.
pub bill_fits : (m n : ℕ) (b : Bill) → length (bill_text m n b) ≤ 1024
unfolding bill_text
bill_fits m n b = template_fits bill_template _ bill_most

pub open_fits : (n : ℕ) → length (open_text n) ≤ 32
unfolding open_text most_bytes
open_fits n = template_fits (bytes_of "open=#\n") _ (lit≤ tt)

pub line_fits : (n : ℕ) → length (line_text n) ≤ 32
unfolding line_text most_bytes
line_fits n = template_fits (bytes_of "line=#\n") _ (lit≤ tt)

-- The line of a bill is the template with these numbers.
pub bill_line_lem : {ns o o1 : List ℕ} {i j : ℕ} (m n : ℕ) (b : Bill) → ns ≡ year_of m ∷ month_of_year m / 10 ∷ month_of_year m % 10 ∷ n ∷ amounts b
    → Put o i (filled_in bill_template ns) o1 j → Put o i (bill_text m n b) o1 j
unfolding bill_text
bill_line_lem m n b e w = rw e at w
