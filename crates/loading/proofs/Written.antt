-- A text that is loaded is one that a schedule is written as: it has the four lines, and each is its key with the digits of what it gives.
use mathlib.Core.Path.{◌≡◌, refl, sym, ◌∙◌, ap}
use mathlib.Core.Bool.{Bool, true, false, false≢true, cond, not, ◌&&◌}
use mathlib.Core.List.{List, [], ◌∷◌, ◌++◌, append_assoc, append-nil, map}
use mathlib.Core.Logic.{◌⊎◌, inl, inr, ⊎_elim}
use Prim.Native.Nat.{ℕ, ◌+◌, ◌-◌}
use native.Mathlib.Omega.{arith}
use borrow.Author.Tests.{ne_eqb, eqb-true, leb-true}
use lib.Dec.{eqb, leb}
use lib.ListN.{length, take, drop, length-append}
use lib.Seq.{take-append_seam, take_at, drop_at, drop-drop}
use Rattle.std.proofs.lemmas.Bool.{and_parts}
use Rattle.text.specs.Text.{bytes_of, lines_from}
use Rattle.grammar.specs.Grammar.{begins_with, keyed}
use Rattle.loading.specs.Loading.{is_period_digit, all_period_digits, periods_in, schedule_lines, all_good, all_given}
use Rattle.loading.specs.Loading.{newline, line_of, text_of}
use Rattle.loading.proofs.Periods.{keyed_row}

-- Lines with a newline behind each.
unfoldable ended : List (List ℕ) → List ℕ
ended [] = []
ended (l ∷ ls) = l ++ (newline ++ ended ls)

-- A text is its lines, or lacks the newline of the last.
abbrev Ends : List ℕ → List ℕ → Type 0
Ends lines text = (lines ≡ text) ⊎ (lines ≡ text ++ newline)

ends_behind : (front : List ℕ) {lines text : List ℕ} → Ends lines text → Ends (front ++ lines) (front ++ text)
ends_behind front (inl e) = inl (rw e)
ends_behind front (inr e) = inr (rw (e, append_assoc))

lines_end : (l text : List ℕ) → Ends (ended (lines_from l text)) (l ++ text)
unfolding lines_from ended
lines_end [] [] = inl refl
lines_end (x ∷ l) [] = inr (rw (ne_eqb (length (x ∷ l)) 0 (λ e. omega arith), append-nil l))
lines_end l (b ∷ text) = by (eqb b 10) refl (lines_end [] text) (lines_end (l ++ b ∷ []) text)
  where
    by : (t : Bool) → eqb b 10 ≡ t → Ends (ended (lines_from [] text)) text → Ends (ended (lines_from (l ++ b ∷ []) text)) ((l ++ b ∷ []) ++ text)
        → Ends (ended (cond t (l ∷ lines_from [] text) (lines_from (l ++ b ∷ []) text))) (l ++ b ∷ text)
    by true e next same = rw (eqb-true b 10 e) (ends_behind l (ends_behind newline next))
    by false e next same = rw (append_assoc l (b ∷ []) text) at same

-- Digits of periods are written as they were read.
digit_there : (b : ℕ) → is_period_digit b ≡ true → b - 48 + 48 ≡ b
digit_there b e =
    let low = leb-true 49 b (and_parts (leb 49 b) (leb b 51) e).0 in
    omega arith

digits_there : (l : List ℕ) → all_period_digits l ≡ true → map (λ p. p + 48) (map (λ b. b - 48) l) ≡ l
unfolding all_period_digits
digits_there [] e = refl
digits_there (b ∷ l) e =
    let both = and_parts (is_period_digit b) (all_period_digits l) e in
    rw (digit_there b both.0, digits_there l both.1)

periods_there : (l : List ℕ) → not (eqb (length (periods_in l)) 0) ≡ true → map (λ p. p + 48) (periods_in l) ≡ l
unfolding periods_in
periods_there l = by (eqb (length l) 96 && all_period_digits l) refl
  where
    by : (t : Bool) → (eqb (length l) 96 && all_period_digits l) ≡ t → not (eqb (length (cond t (map (λ b. b - 48) l) [])) 0) ≡ true
        → map (λ p. p + 48) (cond t (map (λ b. b - 48) l) []) ≡ l
    by true p e = digits_there l (and_parts (eqb (length l) 96) (all_period_digits l) p).1
    by false p e = absurd (false≢true e)

begins_key : (key l : List ℕ) → begins_with key l ≡ true → key ++ drop (length key) l ≡ l
unfolding begins_with
begins_key [] l e = refl
begins_key (b ∷ key) [] e = absurd (false≢true e)
begins_key (b ∷ key) (x ∷ l) e =
    let both = and_parts (eqb b x) (begins_with key l) e in
    rw (begins_key key l both.1, eqb-true b x both.0)

-- A good line is written with what it gives.
line_there : (key l : List ℕ) → not (eqb (length (keyed key periods_in l)) 0) ≡ true → line_of key (keyed key periods_in l) ≡ l
unfolding keyed line_of
line_there key l = by (begins_with key l) refl
  where
    digits : List ℕ
    digits = drop (length key) l

    by : (t : Bool) → begins_with key l ≡ t → not (eqb (length (cond t (periods_in digits) [])) 0) ≡ true
        → key ++ map (λ p. p + 48) (cond t (periods_in digits) []) ≡ l
    by true p e = rw (periods_there digits e) (begins_key key l p)
    by false p e = absurd (false≢true e)

-- Entries that are written in lines, 96 to a key.
abbrev pub readers : List (List ℕ) → List (List ℕ → List ℕ)
readers keys = map (λ key. keyed key periods_in) keys

unfoldable written_by : List (List ℕ) → List ℕ → List ℕ
written_by [] s = []
written_by (key ∷ keys) s = line_of key (take 96 s) ++ (newline ++ written_by keys (drop 96 s))

-- Good lines are those that what they give is written in, and no more.
good_lines : (keys ls : List (List ℕ)) → all_good (readers keys) ls ≡ true → written_by keys (all_given (readers keys) ls) ≡ ended ls
unfolding all_good all_given ended written_by
good_lines [] [] e = refl
good_lines [] (l ∷ ls) e = absurd (false≢true e)
good_lines (key ∷ keys) [] e = absurd (false≢true e)
good_lines (key ∷ keys) (l ∷ ls) e =
    let xs = keyed key periods_in l in
    let rest = all_given (readers keys) ls in
    let both = and_parts (not (eqb (length xs) 0)) (all_good (readers keys) ls) e in
    let long = (keyed_row key l both.0).0 in
    rw (take_at xs rest 96 long, drop_at xs rest 96 long, line_there key l both.0, good_lines keys ls both.1)

abbrev pub four_keys : List (List ℕ)
four_keys = bytes_of "winter-weekday=" ∷ bytes_of "winter-weekend=" ∷ bytes_of "summer-weekday=" ∷ bytes_of "summer-weekend=" ∷ []

four_written : (s : List ℕ) → written_by four_keys s ≡ text_of s ++ newline
unfolding written_by text_of
four_written s = rw (drop-drop 96 96 s, drop-drop 96 192 s) (simp append_assoc)

-- Texts that end alike.
same_front : (a b : List ℕ) → a ++ newline ≡ b ++ newline → a ≡ b
same_front a b e =
    let long : length a ≡ length b = omega (arith, sym (length-append a newline) ∙ ap length e ∙ length-append b newline) in
    sym (take-append_seam a newline) ∙ rw (e, long) (take-append_seam b newline)

-- So a text of four good lines is that of what they give.
pub text_there : (text : List ℕ) → all_good schedule_lines (lines_from [] text) ≡ true
    → (text ≡ text_of (all_given schedule_lines (lines_from [] text))) ⊎ (text ≡ text_of (all_given schedule_lines (lines_from [] text)) ++ newline)
text_there text e =
    let s = all_given schedule_lines (lines_from [] text) in
    let all : text_of s ++ newline ≡ ended (lines_from [] text) = sym (four_written s) ∙ good_lines four_keys (lines_from [] text) e in
    ⊎_elim (λ q. inr (sym (all ∙ q))) (λ q. inl (sym (same_front (text_of s) text (all ∙ q)))) (lines_end [] text)
