-- The byte at which `status_after` looks is the first digit of the number that a text was printed from.
use mathlib.Core.Path.{◌≡◌, refl, sym, ◌∙◌, ap}
use mathlib.Core.Bool.{Bool, true, false, false≢true, cond, not, ◌&&◌}
use mathlib.Core.List.{List, [], ◌∷◌, ◌++◌, append_assoc}
use Prim.Native.Nat.{ℕ, zero, suc, ◌+◌, ◌*◌, ◌/◌, ◌%◌, ◌^◌, ◌≤◌, ◌<◌}
use native.Mathlib.Nat.{pow-suc}
use native.Mathlib.Omega.{arith}
use borrow.Author.Tests.{eqb-true, ne_eqb, lt-ltb, le-ltb, ltb-false, not-true}
use lib.Dec.{eqb, ltb}
use lib.ListN.{length, get_or, drop, length-append}
use Rattle.calendar.specs.Calendar.{year_of, month_of_year}
use Rattle.std.proofs.lemmas.Bool.{and_parts}
use Rattle.billing.specs.declared.Bill.{Bill}
use Rattle.text.specs.Text.{bytes_of, place_of, lines_from}
use Rattle.text.proofs.Laws.{Plain, plain_append, line_first}
use Rattle.printing.specs.Text.{digit_byte, digits, decimal, mark, filled_in}
use Rattle.printing.specs.Printing.{amounts, bill_template, bill_text, open_text, line_text}
use Rattle.table.proofs.ReadsBack.{filled_mark, filled_byte}
use Rattle.statement.specs.Status.{after_reply, status_after, status_over, status_from, StatusTells}
use Rattle.statement.proofs.Texts.{open_ends, bill_ends, line_ends}
use Rattle.statement.proofs.Lines.{status_cut, status_none}

-- The first digit of a number is 0 where the number is.
byte_zero : (n : ℕ) → eqb (digit_byte n) 48 ≡ eqb n 0
byte_zero zero = refl
byte_zero (suc n) = ne_eqb (48 + suc n) 48 (λ e. omega arith) ∙ sym (ne_eqb (suc n) 0 (λ e. omega arith))

first_zero : (k n : ℕ) (rest : List ℕ) → n < 10 ^ suc k → eqb (get_or (digits (suc k) n ++ rest) 0 0) 48 ≡ eqb n 0
unfolding digits
first_zero zero n rest h = rw (lt-ltb n 10 (omega arith)) (byte_zero n)
first_zero (suc k) n rest h =
    let p : n < 10 ^ suc k * 10 = rw pow-suc at h in
    by (ltb n 10) refl (first_zero k (n / 10) (digit_byte (n % 10) ∷ rest) (omega arith))
  where
    by : (t : Bool) → ltb n 10 ≡ t → eqb (get_or (digits (suc k) (n / 10) ++ digit_byte (n % 10) ∷ rest) 0 0) 48 ≡ eqb (n / 10) 0
        → eqb (get_or (cond t (digit_byte n ∷ []) (digits (suc k) (n / 10) ++ digit_byte (n % 10) ∷ []) ++ rest) 0 0) 48 ≡ eqb n 0
    by true e r = byte_zero n
    by false e r =
        let large : 10 ≤ n = ltb-false n 10 e in
        rw append_assoc (r ∙ ne_eqb (n / 10) 0 (λ z. omega arith) ∙ sym (ne_eqb n 0 (λ z. omega arith)))

-- A text is one line and its newline.
record IsLine (text line : List ℕ) : Type 0 where
  pub ends : text ≡ line ++ 10 ∷ []
  pub plain : Plain line

newline : IsLine (10 ∷ []) []
unfolding place_of
newline = record { ends = refl; plain = refl }

-- It is with other bytes before it, such as digits.
after_word : {text line : List ℕ} (word : List ℕ) → Plain word → IsLine text line → IsLine (word ++ text) (word ++ line)
after_word {line = line} word h x =
    record {
      ends = rw x.ends (sym (append_assoc word line (10 ∷ [])));
      plain = plain_append word line h ∙ rw (x.plain, length-append);
    }

byte_plain : (b : ℕ) → eqb b 10 ≡ false → Plain (b ∷ [])
unfolding place_of
byte_plain b e = rw e

digit_plain : (d : ℕ) → Plain (digit_byte d ∷ [])
digit_plain d = byte_plain (digit_byte d) (ne_eqb (digit_byte d) 10 (λ e. omega arith))

digits_plain : (k n : ℕ) → Plain (digits k n)
unfolding digits place_of
digits_plain zero n = refl
digits_plain (suc k) n = by (ltb n 10) (digits_plain k (n / 10))
  where
    by : (t : Bool) → Plain (digits k (n / 10)) → Plain (cond t (digit_byte n ∷ []) (digits k (n / 10) ++ digit_byte (n % 10) ∷ []))
    by true h = digit_plain n
    by false h = plain_append (digits k (n / 10)) (digit_byte (n % 10) ∷ []) h ∙ rw (digit_plain (n % 10), length-append)

after_number : {text line : List ℕ} (n : ℕ) → IsLine text line → IsLine (decimal n ++ text) (decimal n ++ line)
after_number n x = after_word (decimal n) (digits_plain 20 n) x

-- A template whose last byte alone is a newline is one line when it is filled in.
record SomeLine (text : List ℕ) : Type 0 where
  pub line : List ℕ
  pub is-line : IsLine text line

one_line : List ℕ → Bool
one_line [] = false
one_line (b ∷ []) = eqb b 10
one_line (b ∷ c ∷ t) = not (eqb b 10) && one_line (c ∷ t)

filled_next : (b : ℕ) (t ns : List ℕ) (x : Bool) → eqb b mark ≡ x → eqb b 10 ≡ false → ((ms : List ℕ) → SomeLine (filled_in t ms))
    → SomeLine (filled_in (b ∷ t) ns)
unfolding filled_in
filled_next b t [] true e f r = rw e (r [])
filled_next b t (n ∷ ns) true e f r =
    rw (filled_mark b t n ns e) (record { line = decimal n ++ (r ns).line; is-line = after_number n (r ns).is-line })
filled_next b t ns false e f r = rw (filled_byte b t ns e) (record { line = b ∷ (r ns).line; is-line = after_word (b ∷ []) (byte_plain b f) (r ns).is-line })

filled_line : (t ns : List ℕ) → one_line t ≡ true → SomeLine (filled_in t ns)
unfolding one_line filled_in
filled_line [] ns h = absurd (false≢true h)
filled_line (b ∷ []) ns h = rw (eqb-true b 10 h, filled_byte 10 [] ns refl) (record { line = []; is-line = newline })
filled_line (b ∷ c ∷ t) ns h =
    let both = and_parts (not (eqb b 10)) (one_line (c ∷ t)) h in
    filled_next b (c ∷ t) ns (eqb b mark) refl (not-true (eqb b 10) both.0) (λ ms. filled_line (c ∷ t) ms both.1)

-- The status after such a text is the one after its line.
status_one : (s : ℕ) {text line : List ℕ} → IsLine text line → status_from s text ≡ status_after s line
unfolding status_from status_over lines_from
status_one s {line = line} x = ap (status_over s) (ap (lines_from []) x.ends ∙ line_first line [] x.plain)

-- The line of an opening, and that of a stop.
open_line : (n : ℕ) → IsLine (open_text n) (bytes_of "open=" ++ (decimal n ++ []))
unfolding open_text filled_in place_of
open_line n = after_word (bytes_of "open=") refl (after_number n newline)

stop_line : (n : ℕ) → IsLine (line_text n) (bytes_of "line=" ++ (decimal n ++ []))
unfolding line_text filled_in place_of
stop_line n = after_word (bytes_of "line=") refl (after_number n newline)

open_status : (s n : ℕ) → n < 10 ^ 20 → status_from s (open_text n) ≡ after_reply s (eqb n 0)
unfolding status_after
open_status s n h = status_one s (open_line n) ∙ ap (after_reply s) (first_zero 19 n [] h)

stop_status : (s n : ℕ) → status_from s (line_text n) ≡ 2
unfolding status_after
stop_status s n = status_one s (stop_line n)

-- The line of a month, whose year has four digits and whose month has two.
four_digits : (y : ℕ) → 1000 ≤ y → y < 10000
    → decimal y ≡ digit_byte (y / 10 / 10 / 10) ∷ digit_byte (y / 10 / 10 % 10) ∷ digit_byte (y / 10 % 10) ∷ digit_byte (y % 10) ∷ []
unfolding digits
four_digits y h l =
    rw (
      le-ltb y 10 (omega arith),
      le-ltb (y / 10) 10 (omega arith),
      le-ltb (y / 10 / 10) 10 (omega arith),
      lt-ltb (y / 10 / 10 / 10) 10 (omega arith),
    )

one_digit : (d : ℕ) → d < 10 → decimal d ≡ digit_byte d ∷ []
unfolding digits
one_digit d h = rw (lt-ltb d 10 h)

abbrev month_line : ℕ → ℕ → List ℕ → List ℕ
month_line y q answer = bytes_of "bill=" ++ (decimal y ++ (bytes_of "-" ++ (decimal (q / 10) ++ (decimal (q % 10) ++ (bytes_of " answer=" ++ answer)))))

month_line_lem : (t ns : List ℕ) (y q n : ℕ) {line : List ℕ} → IsLine (filled_in t ns) line
    → IsLine (filled_in (bytes_of "bill=#-## answer=#" ++ t) (y ∷ q / 10 ∷ q % 10 ∷ n ∷ ns)) (month_line y q (decimal n ++ line))
unfolding filled_in place_of
month_line_lem t ns y q n x =
    after_word (bytes_of "bill=") refl
    (after_number y
    (after_word (bytes_of "-") refl (after_number (q / 10) (after_number (q % 10) (after_word (bytes_of " answer=") refl (after_number n x))))))

number_place_lem : (y q : ℕ) (answer : List ℕ) → 1000 ≤ y → y < 10000 → q < 100 → get_or (month_line y q answer) 20 0 ≡ get_or answer 0 0
number_place_lem y q answer h l k = rw (four_digits y h l, one_digit (q / 10) (omega arith), one_digit (q % 10) (omega arith))

-- The amounts follow the answer on the same line.
abbrev amounts_template : List ℕ
amounts_template = drop (length (bytes_of "bill=#-## answer=#")) bill_template

amounts_line : (b : Bill) → SomeLine (filled_in amounts_template (amounts b))
unfolding one_line
amounts_line b = filled_line amounts_template (amounts b) refl

bill_line_lem : (m n : ℕ) (b : Bill) → IsLine (bill_text m n b) (month_line (year_of m) (month_of_year m) (decimal n ++ (amounts_line b).line))
unfolding bill_text
bill_line_lem m n b = month_line_lem amounts_template (amounts b) (year_of m) (month_of_year m) n (amounts_line b).is-line

bill_status : (s m n : ℕ) (b : Bill) → year_of m < 10000 → n < 10 ^ 20 → status_from s (bill_text m n b) ≡ after_reply s (eqb n 0)
unfolding status_after
bill_status s m n b h l =
    let rest = (amounts_line b).line in
    let place = number_place_lem (year_of m) (month_of_year m) (decimal n ++ rest) (omega arith) h (omega arith) in
    status_one s (bill_line_lem m n b) ∙ ap (after_reply s) (ap (λ (d : ℕ). eqb d 48) place ∙ first_zero 19 n rest l)

-- So each text has the status of its number, and then its rest is told.
pub status_tells : StatusTells
status_tells = record {
  nothing = status_none;
  opening = λ s n rest h. status_cut s (open_text n) rest (open_ends n) ∙ rw (open_status s n h);
  month = λ s m n b rest h l. status_cut s (bill_text m n b) rest (bill_ends m n b) ∙ rw (bill_status s m n b h l);
  stop = λ s n rest. status_cut s (line_text n) rest (line_ends n) ∙ rw (stop_status s n);
}
