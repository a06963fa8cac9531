-- The numbers of a line that `printing` prints are those that it was printed from.
use mathlib.Core.Path.{◌≡◌, refl, sym, ◌∙◌, ap}
use mathlib.Core.Bool.{Bool, true, false, false≢true, cond, ◌&&◌, not}
use mathlib.Core.List.{List, [], ◌∷◌, ◌++◌, append_assoc}
use Prim.Native.Nat.{ℕ, zero, suc, ◌+◌, ◌*◌, ◌/◌, ◌%◌, ◌^◌, ◌≤◌, ◌<◌}
use native.Mathlib.Nat.{pow-suc}
use native.Mathlib.Omega.{arith}
use borrow.Author.Tests.{le-leb, leb-true, ltb-true, lt-ltb, not-true}
use lib.Dec.{eqb, leb, ltb}
use lib.ListN.{length, get_or}
use Rattle.calendar.specs.Calendar.{year_of, month_of_year}
use Rattle.std.proofs.lemmas.Bool.{and_parts}
use Rattle.billing.specs.declared.Bill.{Bill}
use Rattle.text.specs.Text.{bytes_of}
use Rattle.numerals.specs.Numerals.{is_digit}
use Rattle.printing.specs.Text.{digit_byte, digits, decimal, filled_in}
use Rattle.printing.specs.Printing.{amounts, bill_text, open_text, line_text}
use Rattle.table.specs.Numbers.{all_fit, with_digit, numbers_after, first_of, numbers_of, kind_of, opening, month, stop, refusal_of}
use Rattle.table.specs.Table.{table_for, table_of}
use Rattle.table.specs.Explaining.{explanation_for, explanation_of}

-- A digit's byte is read as the digit.
digit_is : (d : ℕ) → d < 10 → is_digit (48 + d) ≡ true
digit_is d h = simp (le-leb 48 (48 + d) (omega arith), le-leb (48 + d) 57 (omega arith))

read_digit : (t : Bool) (v d w : ℕ) (rest : List ℕ) → d < 10 → v * 10 + d ≡ w → w ≤ 18446744073709551615
    → numbers_after t v ((48 + d) ∷ rest) ≡ numbers_after true w rest
unfolding numbers_after with_digit
read_digit t v d w rest h e l =
    let value : with_digit v (48 + d) ≡ w = omega arith in
    rw (digit_is d h, value)

-- The digits of a number are read as the number.
read_one : (k n : ℕ) (rest : List ℕ) → n < 10 → numbers_after false 0 (digits (suc k) n ++ rest) ≡ numbers_after true n rest
unfolding digits
read_one k n rest h = rw (lt-ltb n 10 h) (read_digit false 0 n n rest h (omega arith) (omega arith))

read_digits : (k n : ℕ) (rest : List ℕ) → n < 10 ^ suc k → n ≤ 18446744073709551615
    → numbers_after false 0 (digits (suc k) n ++ rest) ≡ numbers_after true n rest
unfolding digits
read_digits zero n rest h l = read_one zero n rest h
read_digits (suc k) n rest h l =
    let p : n < 10 ^ suc k * 10 = rw pow-suc at h in
    by (ltb n 10) refl (read_digits k (n / 10) (digit_byte (n % 10) ∷ rest) (omega arith) (omega arith))
  where
    by : (t : Bool) → ltb n 10 ≡ t
        → numbers_after false 0 (digits (suc k) (n / 10) ++ digit_byte (n % 10) ∷ rest) ≡ numbers_after true (n / 10) (digit_byte (n % 10) ∷ rest)
        → numbers_after false 0 (cond t (digit_byte n ∷ []) (digits (suc k) (n / 10) ++ digit_byte (n % 10) ∷ []) ++ rest) ≡ numbers_after true n rest
    by true e r = read_digit false 0 n n rest (ltb-true n 10 e) (omega arith) l
    by false e r = rw append_assoc (r ∙ read_digit true (n / 10) (n % 10) n rest (omega arith) (omega arith) l)

read_number : (n : ℕ) (rest : List ℕ) → n ≤ 18446744073709551615 → numbers_after false 0 (decimal n ++ rest) ≡ numbers_after true n rest
read_number n rest h = read_digits 19 n rest (omega arith) h

-- A byte that is no digit ends a number.
read_other : (t : Bool) (v b : ℕ) (rest : List ℕ) → is_digit b ≡ false
    → numbers_after t v (b ∷ rest) ≡ cond t (v ∷ numbers_after false 0 rest) (numbers_after false 0 rest)
unfolding numbers_after
read_other t v b rest e = rw e

-- A template in which no digit stands and after each mark something else.
plain : Bool → List ℕ → Bool
plain after [] = true
plain after (b ∷ t) = cond (eqb b 35) (not after && plain true t) (not (is_digit b) && plain false t)

marks : List ℕ → ℕ
marks [] = 0
marks (b ∷ t) = cond (eqb b 35) 1 0 + marks t

-- What is put for a byte of a template.
pub filled_mark : (b : ℕ) (t : List ℕ) (n : ℕ) (ns : List ℕ) → eqb b 35 ≡ true → filled_in (b ∷ t) (n ∷ ns) ≡ decimal n ++ filled_in t ns
unfolding filled_in
filled_mark b t n ns e = rw e

pub filled_byte : (b : ℕ) (t ns : List ℕ) → eqb b 35 ≡ false → filled_in (b ∷ t) ns ≡ b ∷ filled_in t ns
unfolding filled_in
filled_byte b t [] e = rw e
filled_byte b t (n ∷ ns) e = rw e

-- The numbers of such a template filled in are those that it was filled in with.
read_next : (b : ℕ) (t : List ℕ) (after : Bool) (v : ℕ) (ns : List ℕ) (x : Bool) → eqb b 35 ≡ x
    → cond x (not after && plain true t) (not (is_digit b) && plain false t) ≡ true
    → cond x 1 0 + marks t ≡ length ns
    → all_fit ns ≡ true
    → (after ≡ false → v ≡ 0)
    → ((w : ℕ) (ms : List ℕ) → plain true t ≡ true → marks t ≡ length ms → all_fit ms ≡ true → numbers_after true w (filled_in t ms) ≡ w ∷ ms)
    → (plain false t ≡ true → marks t ≡ length ns → numbers_after false 0 (filled_in t ns) ≡ ns)
    → numbers_after after v (filled_in (b ∷ t) ns) ≡ cond after (v ∷ ns) ns
unfolding all_fit
read_next b t after v [] true e p m f z r q = absurd (omega arith)
read_next b t true v (n ∷ ns) true e p m f z r q = absurd (false≢true p)
read_next b t false v (n ∷ ns) true e p m f z r q =
    let both = and_parts (leb n 18446744073709551615) (all_fit ns) f in
    rw (z refl, filled_mark b t n ns e)
    (read_number n (filled_in t ns) (leb-true n 18446744073709551615 both.0) ∙ r n ns p (omega arith) both.1)
read_next b t after v ns false e p m f z r q =
    let both = and_parts (not (is_digit b)) (plain false t) p in
    rw (filled_byte b t ns e, read_other after v b (filled_in t ns) (not-true (is_digit b) both.0), q both.1 (omega arith))

read_template : (t : List ℕ) (after : Bool) (v : ℕ) (ns : List ℕ) → plain after t ≡ true → marks t ≡ length ns → all_fit ns ≡ true
    → (after ≡ false → v ≡ 0)
    → numbers_after after v (filled_in t ns) ≡ cond after (v ∷ ns) ns
unfolding plain marks filled_in numbers_after
read_template [] after v [] p m f z = refl
read_template [] after v (n ∷ ns) p m f z = absurd (omega arith)
read_template (b ∷ t) after v ns p m f z =
    read_next b t after v ns (eqb b 35) refl p m f z
    (λ w ms p m f. read_template t true w ms p m f (λ e. absurd (false≢true (sym e))))
    (λ p m. read_template t false 0 ns p m f (λ e. refl))

-- After the month the line of a bill is such a template.
abbrev after_month : List ℕ
after_month =
    bytes_of " answer=# own=#,#,#,# out=#,#,#,# in=#,#,#,# paid=#,#,#,#"
    ++ bytes_of " forfeited=#,#,#,# billed=#,#,#,# left=#,#,#,# energy=# due=#\n"

-- A month of two digits is read as one number.
month_numbers : (q : ℕ) (rest : List ℕ) → q < 100 → numbers_after false 0 (decimal (q / 10) ++ (decimal (q % 10) ++ rest)) ≡ numbers_after true q rest
unfolding digits
month_numbers q rest h =
    read_number (q / 10) (decimal (q % 10) ++ rest) (omega arith)
    ∙ rw (lt-ltb (q % 10) 10 (omega arith)) (read_digit true (q / 10) (q % 10) q rest (omega arith) (omega arith) (omega arith))

-- The numbers of a bill's line, part by part.
front : (t ns : List ℕ) (y d u : ℕ)
    → filled_in (98 ∷ 105 ∷ 108 ∷ 108 ∷ 61 ∷ 35 ∷ 45 ∷ 35 ∷ 35 ∷ t) (y ∷ d ∷ u ∷ ns)
    ≡ 98 ∷ 105 ∷ 108 ∷ 108 ∷ 61 ∷ (decimal y ++ (45 ∷ (decimal d ++ (decimal u ++ filled_in t ns))))
unfolding filled_in
front t ns y d u = refl

letters : (rest : List ℕ) → numbers_after false 0 (98 ∷ 105 ∷ 108 ∷ 108 ∷ 61 ∷ rest) ≡ numbers_after false 0 rest
unfolding numbers_after
letters rest = refl

dash : (y : ℕ) (rest : List ℕ) → numbers_after true y (45 ∷ rest) ≡ y ∷ numbers_after false 0 rest
unfolding numbers_after
dash y rest = refl

front_numbers : (t ns : List ℕ) (y q : ℕ) → y ≤ 18446744073709551615 → q < 100 → plain true t ≡ true → marks t ≡ length ns
    → all_fit ns ≡ true
    → numbers_after false 0 (filled_in (98 ∷ 105 ∷ 108 ∷ 108 ∷ 61 ∷ 35 ∷ 45 ∷ 35 ∷ 35 ∷ t) (y ∷ q / 10 ∷ q % 10 ∷ ns)) ≡ y ∷ q ∷ ns
front_numbers t ns y q h l p m f =
    rw (front t ns y (q / 10) (q % 10))
    (letters _ ∙ read_number y _ h ∙ dash y _
    ∙ ap (λ (ms : List ℕ). y ∷ ms)
    (month_numbers q (filled_in t ns) l ∙ read_template t true q ns p m f (λ e. absurd (false≢true (sym e)))))

bill_numbers : (m n : ℕ) (b : Bill) → year_of m ≤ 18446744073709551615 → all_fit (n ∷ amounts b) ≡ true
    → numbers_after false 0 (bill_text m n b) ≡ year_of m ∷ month_of_year m ∷ n ∷ amounts b
unfolding bill_text plain marks
bill_numbers m n b h f = front_numbers after_month (n ∷ amounts b) (year_of m) (month_of_year m) h (omega arith) refl refl f

-- The numbers of a month's text are its year and month, its number and the bill's amounts.
pub bill_reads_back : (m n : ℕ) (b : Bill) → all_fit (year_of m ∷ n ∷ amounts b) ≡ true
    → (kind_of (bill_text m n b) ≡ month) × (numbers_of (bill_text m n b) ≡ year_of m ∷ month_of_year m ∷ n ∷ amounts b)
unfolding all_fit numbers_of first_of kind_of bill_text
bill_reads_back m n b f =
    let both = and_parts (leb (year_of m) 18446744073709551615) (all_fit (n ∷ amounts b)) f in
    let ns = bill_numbers m n b (leb-true (year_of m) 18446744073709551615 both.0) both.1 in
    let text = front after_month (n ∷ amounts b) (year_of m) (month_of_year m / 10) (month_of_year m % 10) in
    (ap (λ (x : List ℕ). get_or x 0 0) text, ap (first_of 33) ns)

-- So what is shown of it is made of these.
pub bill_shown : (m n : ℕ) (b : Bill) → all_fit (year_of m ∷ n ∷ amounts b) ≡ true
    → (table_of (bill_text m n b) ≡ table_for month (year_of m ∷ month_of_year m ∷ n ∷ amounts b) n)
    × (explanation_of (bill_text m n b) ≡ explanation_for month (year_of m ∷ month_of_year m ∷ n ∷ amounts b) n)
unfolding table_of explanation_of refusal_of
bill_shown m n b f = let back = bill_reads_back m n b f in (rw (back.0, back.1), rw (back.0, back.1))

-- A template with one number.
one_number : (t : List ℕ) (b n : ℕ) → plain false (b ∷ t) ≡ true → marks (b ∷ t) ≡ 1 → eqb b 35 ≡ false → n ≤ 18446744073709551615
    → (kind_of (filled_in (b ∷ t) (n ∷ [])) ≡ b) × (get_or (numbers_of (filled_in (b ∷ t) (n ∷ []))) 0 0 ≡ n)
unfolding all_fit numbers_of first_of kind_of
one_number t b n p m d h =
    let fits : (leb n 18446744073709551615 && true) ≡ true = rw (le-leb n 18446744073709551615 h) in
    let ns = read_template (b ∷ t) false 0 (n ∷ []) p m fits (λ q. refl) in
    (ap (λ (x : List ℕ). get_or x 0 0) (filled_byte b t (n ∷ []) d), ap (λ (ms : List ℕ). get_or (first_of 33 ms) 0 0) ns)

-- So is the number of an opening, and that of a stop.
pub open_reads_back : (n : ℕ) → n ≤ 18446744073709551615 → (kind_of (open_text n) ≡ opening) × (get_or (numbers_of (open_text n)) 0 0 ≡ n)
unfolding open_text plain marks
open_reads_back n h = one_number (bytes_of "pen=#\n") opening n refl refl refl h

pub line_reads_back : (n : ℕ) → n ≤ 18446744073709551615 → (kind_of (line_text n) ≡ stop) × (get_or (numbers_of (line_text n)) 0 0 ≡ n)
unfolding line_text plain marks
line_reads_back n h = one_number (bytes_of "ine=#\n") stop n refl refl refl h
