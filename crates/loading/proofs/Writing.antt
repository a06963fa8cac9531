-- Rows of a schedule that are written as lines, and read.
use mathlib.Core.Path.{◌≡◌, refl, ap, ◌∙◌}
use mathlib.Core.Bool.{true}
use mathlib.Core.List.{List, [], ◌∷◌, ◌++◌, append_assoc, map}
use Prim.Native.Nat.{ℕ, suc, ◌+◌, ◌-◌, ◌<◌}
use native.Mathlib.Omega.{arith}
use borrow.Author.Tests.{eq-eqb, ne_eqb, le-leb, leb-true}
use lib.Dec.{leb}
use lib.ListN.{length, length-append, length-map}
use lib.Seq.{drop-append_seam}
use Rattle.std.proofs.lemmas.Bool.{and_parts}
use Rattle.hours.specs.Schedules.{is_entry, all_entries}
use Rattle.text.specs.Text.{bytes_of, place_of, lines_from}
use Rattle.text.proofs.Laws.{Plain, plain_append, line_first}
use Rattle.grammar.specs.Grammar.{begins_with, keyed}
use Rattle.grammar.proofs.Texts.{keyed_yes}
use Rattle.loading.specs.Loading.{is_period_digit, all_period_digits, periods_in, schedule_lines, all_good, all_given}
use Rattle.loading.specs.Loading.{newline, line_of}
use Rattle.loading.proofs.Periods.{periods_are}

-- Four lines one after the other, whatever ends the last one.
four_lines : (a b c d end : List ℕ) → Plain a → Plain b → Plain c → lines_from [] (d ++ end) ≡ d ∷ []
    → lines_from [] (a ++ newline ++ b ++ newline ++ c ++ newline ++ d ++ end) ≡ a ∷ b ∷ c ∷ d ∷ []
four_lines a b c d end p q r e = simp append_assoc (rw (line_first a _ p, line_first b _ q, line_first c _ r, e))

-- Entries as digits, and back.
entry_digit : (p : ℕ) → is_entry p ≡ true → is_period_digit (p + 48) ≡ true
entry_digit p e =
    let both = and_parts (leb 1 p) (leb p 3) e in
    let low = leb-true 1 p both.0 in
    let high = leb-true p 3 both.1 in
    rw (le-leb 49 (p + 48) (omega arith), le-leb (p + 48) 51 (omega arith))

entries_digits : (e : List ℕ) → all_entries e ≡ true → all_period_digits (map (λ p. p + 48) e) ≡ true
unfolding all_entries all_period_digits
entries_digits [] h = refl
entries_digits (p ∷ e) h =
    let both = and_parts (is_entry p) (all_entries e) h in
    rw (entry_digit p both.0, entries_digits e both.1)

digits_back : (e : List ℕ) → map (λ b. b - 48) (map (λ p. p + 48) e) ≡ e
digits_back [] = refl
digits_back (p ∷ e) =
    let same : p + 48 - 48 ≡ p = omega arith in
    rw (same, digits_back e)

digits_plain : (e : List ℕ) → Plain (map (λ p. p + 48) e)
unfolding place_of
digits_plain [] = refl
digits_plain (p ∷ e) =
    let other : p + 48 ≡ 10 → ⊥ = λ f. omega arith in
    rw (ne_eqb (p + 48) 10 other) (ap suc (digits_plain e))

begins_own : (key l : List ℕ) → begins_with key (key ++ l) ≡ true
unfolding begins_with
begins_own [] l = refl
begins_own (b ∷ key) l = rw (eq-eqb b b refl) (begins_own key l)

-- A line of a key and 96 entries is one, and gives these.
abbrev pub Full : List ℕ → Type 0
Full e = (length e ≡ 96) × (all_entries e ≡ true)

line_plain : (key e : List ℕ) → Plain key → Plain (line_of key e)
unfolding line_of
line_plain key e h = plain_append key (map (λ p. p + 48) e) h ∙ rw (digits_plain e, length-append)

line_gives : (key e : List ℕ) → Full e → keyed key periods_in (line_of key e) ≡ e
unfolding line_of
line_gives key e h =
    let digits = map (λ p. p + 48) e in
    keyed_yes key periods_in (key ++ digits) (begins_own key digits)
    ∙ rw (drop-append_seam key digits, periods_are digits (length-map e (λ p. p + 48) ∙ h.0) (entries_digits e h.1)) (digits_back e)

-- Four rows that are written as lines are read, whatever ends the last one.
abbrev pub rows_text : List ℕ → List ℕ → List ℕ → List ℕ → List ℕ
rows_text a b c d =
    line_of (bytes_of "winter-weekday=") a
    ++ newline
    ++ line_of (bytes_of "winter-weekend=") b
    ++ newline
    ++ line_of (bytes_of "summer-weekday=") c
    ++ newline
    ++ line_of (bytes_of "summer-weekend=") d

pub rows_read : (a b c d end : List ℕ) → Full a → Full b → Full c → Full d
    → ((l : List ℕ) → Plain l → 0 < length l → lines_from [] (l ++ end) ≡ l ∷ [])
    → (all_good schedule_lines (lines_from [] (rows_text a b c d ++ end)) ≡ true)
    × (all_given schedule_lines (lines_from [] (rows_text a b c d ++ end)) ≡ a ++ (b ++ (c ++ (d ++ []))))
unfolding place_of all_good all_given
rows_read a b c d end f g h k last =
    let first = line_of (bytes_of "winter-weekday=") a in
    let second = line_of (bytes_of "winter-weekend=") b in
    let third = line_of (bytes_of "summer-weekday=") c in
    let fourth = line_of (bytes_of "summer-weekend=") d in
    let ended = last fourth (line_plain (bytes_of "summer-weekend=") d refl) (unfold line_of in omega arith) in
    let lines : lines_from [] (rows_text a b c d ++ end) ≡ first ∷ second ∷ third ∷ fourth ∷ [] =
    four_lines first second third fourth end
    (line_plain (bytes_of "winter-weekday=") a refl)
    (line_plain (bytes_of "winter-weekend=") b refl)
    (line_plain (bytes_of "summer-weekday=") c refl)
    ended in
    let one = line_gives (bytes_of "winter-weekday=") a f in
    let two = line_gives (bytes_of "winter-weekend=") b g in
    let three = line_gives (bytes_of "summer-weekday=") c h in
    let four = line_gives (bytes_of "summer-weekend=") d k in
    (rw lines (rw (one, two, three, four, f.0, g.0, h.0, k.0)), rw lines (rw (one, two, three, four)))
