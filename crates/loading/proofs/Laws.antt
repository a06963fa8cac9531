-- What callers know of a load: what it accepts an opening accepts, a schedule that is written as a text is loaded, and no other text is.
use mathlib.Core.Path.{◌≡◌, refl, sym, ◌∙◌}
use mathlib.Core.Bool.{Bool, true, false, false≢true, cond, not, ◌&&◌, and_assoc}
use mathlib.Core.List.{List, [], ◌∷◌, ◌++◌, append-nil}
use mathlib.Core.Logic.{◌⊎◌}
use Prim.Native.Nat.{ℕ, ◌+◌, ◌*◌, ◌≤◌, ◌<◌}
use native.Mathlib.Omega.{arith}
use borrow.Author.Tests.{eq-eqb}
use lib.Dec.{eqb}
use lib.ListN.{length, take, drop, length-append, length-drop, take-append-drop}
use lib.Seq.{take_all, drop-drop, length-take-le}
use Rattle.std.proofs.lemmas.Bool.{and_parts}
use Rattle.hours.specs.Schedules.{schedule_length, is_entry, all_entries, schedule_refused}
use Rattle.hours.proofs.Packed.{accepted_schedule}
use Rattle.text.specs.Text.{lines_from}
use Rattle.text.proofs.Laws.{Plain, line_first, line_last}
use Rattle.grammar.specs.Grammar.{keyed}
use Rattle.loading.specs.Loading.{periods_in, schedule_lines, all_good, all_given}
use Rattle.loading.specs.Loading.{load_refused, load_number, table_after, newline, text_of}
use Rattle.loading.proofs.Periods.{keyed_row}
use Rattle.loading.proofs.Reading.{load_good}
use Rattle.loading.proofs.Writing.{Full, rows_read}
use Rattle.loading.proofs.Written.{readers, four_keys, text_there}

-- Entries one after the other.
entries_append : (a b : List ℕ) → all_entries (a ++ b) ≡ (all_entries a && all_entries b)
unfolding all_entries
entries_append [] b = refl
entries_append (p ∷ a) b = rw (entries_append a b) (sym (and_assoc (is_entry p) (all_entries a) (all_entries b)))

-- Good lines, each by a key, give 96 entries each.
given_entries : (keys : List (List ℕ)) (ls : List (List ℕ)) → all_good (readers keys) ls ≡ true
    → (length (all_given (readers keys) ls) ≡ 96 * length keys) × (all_entries (all_given (readers keys) ls) ≡ true)
unfolding all_good all_given all_entries
given_entries [] ls e = (refl, refl)
given_entries (key ∷ keys) [] e = absurd (false≢true e)
given_entries (key ∷ keys) (l ∷ ls) e =
    let xs = keyed key periods_in l in
    let rest = all_given (readers keys) ls in
    let both = and_parts (not (eqb (length xs) 0)) (all_good (readers keys) ls) e in
    let row = keyed_row key l both.0 in
    let more = given_entries keys ls both.1 in (
      length-append xs rest ∙ rw (row.0, more.0) (omega arith),
      entries_append xs rest ∙ rw (row.1, more.1),
    )

-- What a load accepts an opening accepts.
pub loaded_is_accepted : (text table : List ℕ) → load_number text table ≡ 0 → schedule_refused (table_after text table) ≡ false
unfolding load_number table_after load_refused schedule_refused
loaded_is_accepted text table e = by (eqb (length table) 384 && good) refl e
  where
    lines : List (List ℕ)
    lines = lines_from [] text

    good : Bool
    good = all_good schedule_lines lines

    by : (t : Bool) → (eqb (length table) 384 && good) ≡ t → ◌≡◌ {A = ℕ} (cond (not t) 15 0) 0
        → not (eqb (length (cond (not t) table (all_given schedule_lines lines))) 384 && all_entries (cond (not t) table (all_given schedule_lines lines))) ≡ false
    by false p e = absurd (omega (arith, e))
    by true p e =
        let is = given_entries four_keys lines (and_parts (eqb (length table) 384) good p).1 in
        rw (eq-eqb (length (all_given schedule_lines lines)) 384 is.0, is.1)

-- 96 entries of a schedule.
entries_part : (n : ℕ) (s : List ℕ) → all_entries s ≡ true → (all_entries (take n s) ≡ true) × (all_entries (drop n s) ≡ true)
entries_part n s h =
    and_parts (all_entries (take n s)) (all_entries (drop n s)) (sym (entries_append (take n s) (drop n s)) ∙ rw (take-append-drop n s) h)

full : (n : ℕ) (s : List ℕ) → all_entries s ≡ true → n + 96 ≤ length s → Full (take 96 (drop n s))
full n s h k = (length-take-le 96 (drop n s) (omega (arith, length-drop n s)), (entries_part 96 (drop n s) (entries_part n s h).1).0)

-- A schedule and its four parts.
parts : (s : List ℕ) → length s ≡ 384
    → take 96 s ++ (take 96 (drop 96 s) ++ (take 96 (drop 192 s) ++ (take 96 (drop 288 s) ++ []))) ≡ s
parts s h =
    let last : take 96 (drop 288 s) ≡ drop 288 s = take_all 96 (drop 288 s) (omega (arith, length-drop 288 s)) in
    rw (last, append-nil)
    (rw (← (drop-drop 96 192 s), take-append-drop 96 (drop 192 s), ← (drop-drop 96 96 s), take-append-drop 96 (drop 96 s), take-append-drop 96 s))

-- A schedule that is written as a text is loaded.
written : (s table end : List ℕ) → schedule_refused s ≡ false → length table ≡ schedule_length
    → ((l : List ℕ) → Plain l → 0 < length l → lines_from [] (l ++ end) ≡ l ∷ [])
    → (load_number (text_of s ++ end) table ≡ 0) × (table_after (text_of s ++ end) table ≡ s)
unfolding text_of
written s table end h k last =
    let (long, all) = accepted_schedule s h in
    let first = full 0 s all (omega arith) in
    let second = full 96 s all (omega arith) in
    let third = full 192 s all (omega arith) in
    let fourth = full 288 s all (omega arith) in
    let read = rows_read (take 96 s) (take 96 (drop 96 s)) (take 96 (drop 192 s)) (take 96 (drop 288 s)) end first second third fourth last in
    let loaded = load_good (text_of s ++ end) table k read.0 in
    (sym loaded.0, sym loaded.1 ∙ read.1 ∙ parts s long)

-- So it is with no newline there, or one.
pub written_is_loaded : (s table : List ℕ) → schedule_refused s ≡ false → length table ≡ schedule_length
    → (load_number (text_of s) table ≡ 0) × (table_after (text_of s) table ≡ s)
    × (load_number (text_of s ++ newline) table ≡ 0) × (table_after (text_of s ++ newline) table ≡ s)
unfolding lines_from
written_is_loaded s table h k =
    let none = rw append-nil at (written s table [] h k (λ l p q. rw append-nil (line_last l p q))) in
    let one = written s table newline h k (λ l p q. line_first l [] p) in
    (none.0, none.1, one.0, one.1)

-- And a text that is loaded is written so: that of the table after it, with no newline there, or one.
pub loaded_is_written : (text table : List ℕ) → load_number text table ≡ 0
    → (text ≡ text_of (table_after text table)) ⊎ (text ≡ text_of (table_after text table) ++ newline)
unfolding load_number table_after load_refused
loaded_is_written text table e = by (eqb (length table) 384 && good) refl e
  where
    given : List ℕ
    given = all_given schedule_lines (lines_from [] text)

    good : Bool
    good = all_good schedule_lines (lines_from [] text)

    by : (t : Bool) → (eqb (length table) 384 && good) ≡ t → ◌≡◌ {A = ℕ} (cond (not t) 15 0) 0
        → (text ≡ text_of (cond (not t) table given)) ⊎ (text ≡ text_of (cond (not t) table given) ++ newline)
    by false p e = absurd (omega (arith, e))
    by true p e = text_there text (and_parts (eqb (length table) 384) good p).1
