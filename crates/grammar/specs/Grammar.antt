-- Document 01, "Day view and statement": the lines that `statement` reads. l is a line or a part of one, as the numbers of its bytes.
-- What a line gives are numbers: a month its number, the first of two words 0 and the second 1; none where the line is unreadable.
use Rattle.std.specs.Prelude.{Bool, true, false, cond, ◌&&◌, List, [], ◌∷◌, ℕ, ◌+◌, ◌*◌, eqb, length, get_or, drop}
use Rattle.text.specs.Text.{bytes_of}
use Rattle.numerals.specs.Numerals.{number_in, month_in, numbers_in, numbers_up_to}

-- Whether a line begins with a text, and whether it is that text.
unfoldable pub begins_with : List ℕ → List ℕ → Bool
begins_with [] l = true
begins_with (b ∷ bs) [] = false
begins_with (b ∷ bs) (x ∷ l) = eqb b x && begins_with bs l

unfoldable pub is_text : List ℕ → List ℕ → Bool
is_text text l = eqb (length l) (length text) && begins_with text l

-- One of two words.
unfoldable pub choice_in : List ℕ → List ℕ → List ℕ → List ℕ
choice_in first second l = cond (is_text first l) (0 ∷ []) (cond (is_text second l) (1 ∷ []) [])

-- "key=value lines": what is read after the key; its `=` is part of the key here.
unfoldable pub keyed : List ℕ → (List ℕ → List ℕ) → List ℕ → List ℕ
keyed key read l = cond (begins_with key l) (read (drop (length key) l)) []

-- "in this fixed order; the first fourteen open the account". 02 No. 3: "the nameplate line holds one to eight, commas between; another count is
-- unreadable".
abbrev pub opening_lines : List (List ℕ → List ℕ)
opening_lines =
    keyed (bytes_of "opens=") month_in
    ∷ keyed (bytes_of "rider=") (choice_in (bytes_of "banked") (bytes_of "bridge"))
    ∷ keyed (bytes_of "class=") (choice_in (bytes_of "home") (bytes_of "business"))
    ∷ keyed (bytes_of "nameplate=") (numbers_up_to 8)
    ∷ keyed (bytes_of "limit=") number_in
    ∷ keyed (bytes_of "assisted=") (choice_in (bytes_of "no") (bytes_of "yes"))
    ∷ keyed (bytes_of "prices=") (numbers_in 4)
    ∷ keyed (bytes_of "demand=") number_in
    ∷ keyed (bytes_of "standby=") number_in
    ∷ keyed (bytes_of "bypass=") number_in
    ∷ keyed (bytes_of "credit=") number_in
    ∷ keyed (bytes_of "distribution=") number_in
    ∷ keyed (bytes_of "basic=") number_in
    ∷ keyed (bytes_of "minimum=") number_in
    ∷ []

-- Line k + 1 of the opening.
unfoldable pub opening_line : ℕ → List ℕ → List ℕ
opening_line k l = get_or opening_lines k (λ l. []) l

-- "each month follows as bill, critical and any number of runs (count, delivered, received)"
unfoldable pub bill_line : List ℕ → List ℕ
bill_line l = keyed (bytes_of "bill=") month_in l

unfoldable pub critical_line : List ℕ → List ℕ
critical_line l = keyed (bytes_of "critical=") number_in l

unfoldable pub run_line : List ℕ → List ℕ
run_line l = keyed (bytes_of "run=") (numbers_in 3) l

-- No readable line is longer than this: `nameplate=`, eight numbers of ten digits and seven commas.
abbrev pub longest_line : ℕ
longest_line = 10 + 8 * 10 + 7
