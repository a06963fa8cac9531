-- What callers know of the calendar: bounds, and how the readings of the days add up. They cite these laws and never open the
-- definitions, so that another length of a day changes no other crate.
use mathlib.Core.Path.{◌≡◌, refl, sym, ◌∙◌}
use mathlib.Core.Bool.{Bool, true, false, cond, ◌&&◌}
use Prim.Native.Nat.{ℕ, suc, ◌+◌, ◌-◌, ◌*◌, ◌%◌, ◌≤◌, ◌<◌}
use native.Mathlib.Nat.{le_refl}
use native.Mathlib.Decide.{le_ind}
use native.Mathlib.Numerals.{add-one}
use native.Mathlib.Omega.{arith}
use borrow.Author.Tests.{eq-eqb, ne_eqb, lt-ltb, le-ltb, eqb-true, eqb-false, ltb-true, ltb-false}
use lib.Dec.{leb, leb→le, eqb, ltb}
use lib.ListN.{get_or}
use Rattle.calendar.specs.Calendar.{month_number, year_of, month_of_year, is_leap, common_days, leap_day, days_in, clock_of, Changes, length_by, day_length, quarter_by, quarter_of}
use Rattle.calendar.specs.Calendar.{readings_through, month_length, MonthLengths, most_readings}
use Rattle.calendar.specs.declared.Clock.{Clock}
use Rattle.calendar.specs.declared.Clock.TheVariants.{Unchanged, Forward, Back}
use Rattle.calendar.proofs.Below.{below}
use Rattle.calendar.proofs.Lengths.{early_changes, other_changes, march_changes, november_changes, through_past}

place : (m : ℕ) → (m % 12 + 1) - 1 ≡ m % 12
place m = omega arith

both_le : (a b : Bool) → cond (a && b) 1 0 ≤ cond a 1 0
both_le true true = omega arith
both_le true false = omega arith
both_le false b = omega arith

-- A leap day falls into February alone.
leap_day-le : (m : ℕ) → leap_day m ≤ cond (eqb (m % 12 + 1) 2) 1 0
unfolding leap_day
leap_day-le m = both_le (eqb (m % 12 + 1) 2) (is_leap (year_of m))

common_days-le : (k : ℕ) → k < 12 → get_or common_days k 0 + cond (eqb (k + 1) 2) 1 0 ≤ 31
common_days-le k h = leb→le _ _ (below (λ k. leb (get_or common_days k 0 + cond (eqb (k + 1) 2) 1 0) 31) 12 tt k h)

common_days-ge : (k : ℕ) → k < 12 → 28 ≤ get_or common_days k 0
common_days-ge k h = leb→le _ _ (below (λ k. leb 28 (get_or common_days k 0)) 12 tt k h)

-- A month's year and month of the year give its number back.
pub month_number_lem : (m : ℕ) → month_number (year_of m) (month_of_year m) ≡ m
month_number_lem m = omega arith

-- The days of a month, read at its place in the table.
pub days_in-is : (m : ℕ) → days_in m ≡ get_or common_days (m % 12) 0 + leap_day m
unfolding days_in
days_in-is m = rw (place m)

pub days_in-le : (m : ℕ) → days_in m ≤ 31
days_in-le m = omega (arith, days_in-is m, common_days-le (m % 12) (omega arith), leap_day-le m)

days_in-ge : (m : ℕ) → 28 ≤ days_in m
days_in-ge m = omega (arith, days_in-is m, common_days-ge (m % 12) (omega arith))

march_days : (m : ℕ) → m % 12 ≡ 2 → days_in m ≡ 31
march_days m e = omega (arith, rw e at (days_in-is m), rw e at (leap_day-le m))

november_days : (m : ℕ) → m % 12 ≡ 10 → days_in m ≡ 30
november_days m e = omega (arith, rw e at (days_in-is m), rw e at (leap_day-le m))

-- Each reading of a day is of one of its 96 quarters.
quarter_by-lt : (k : Clock) (j : ℕ) → j < length_by k → quarter_by k j < 96
unfolding quarter_by
quarter_by-lt Unchanged j h = h
quarter_by-lt Forward j h = by (ltb j 8) refl
  where
    by : (b : Bool) → ltb j 8 ≡ b → cond b j (j + 4) < 96
    by true e = omega arith
    by false e = omega arith
quarter_by-lt Back j h = by (ltb j 8) refl
  where
    by : (b : Bool) → ltb j 8 ≡ b → cond b j (j - 4) < 96
    by true e = omega (arith, ltb-true j 8 e)
    by false e = omega (arith, ltb-false j 8 e)

pub quarter_of-lt : (m d j : ℕ) → j < day_length m d → quarter_of m d j < 96
unfolding day_length quarter_of
quarter_of-lt m d j h = quarter_by-lt (clock_of m d) j h

-- What the clocks do on a day of a month whose change is known; and from it the length of the day and the quarter of a reading.
pub clock_of-is : (m d s : ℕ) (k : Clock) {c : Clock} → Changes m s k → c ≡ cond (eqb d s) k Unchanged → c ≡ clock_of m d
clock_of-is m d s k change e = cc (change.each d)

pub day_length-is : (m d : ℕ) {k : Clock} → k ≡ clock_of m d → length_by k ≡ day_length m d
unfolding day_length
day_length-is m d e = rw e

pub quarter_of-is : (m d j : ℕ) {k : Clock} {q : ℕ} → k ≡ clock_of m d → q ≡ quarter_by k j → q ≡ quarter_of m d j
unfolding quarter_of
quarter_of-is m d j e f = cc

-- Before the clocks change a reading's quarter is its place; after it, and on unchanged days, the quarters follow each other.
pub early_quarter : (k : Clock) (j : ℕ) → j < 8 → quarter_by k j ≡ j
unfolding quarter_by
early_quarter Unchanged j h = refl
early_quarter Forward j h = rw (lt-ltb j 8 h)
early_quarter Back j h = rw (lt-ltb j 8 h)

pub late_quarter : (k : Clock) (i j : ℕ) → 8 ≤ i → i ≤ j → quarter_by k j ≡ quarter_by k i + (j - i)
unfolding quarter_by
late_quarter Unchanged i j h l = omega arith
late_quarter Forward i j h l = rw (le-ltb i 8 h, le-ltb j 8 (omega arith)) (omega arith)
late_quarter Back i j h l = rw (le-ltb i 8 h, le-ltb j 8 (omega arith)) (omega arith)

pub unchanged_quarter : (j : ℕ) → quarter_by Unchanged j ≡ j
unfolding quarter_by
unchanged_quarter j = refl

-- A day has 92 to 100 readings.
pub length_by-ge : (k : Clock) → 92 ≤ length_by k
length_by-ge Unchanged = omega arith
length_by-ge Forward = omega arith
length_by-ge Back = omega arith

pub length_by-le : (k : Clock) → length_by k ≤ 100
length_by-le Unchanged = omega arith
length_by-le Forward = omega arith
length_by-le Back = omega arith

pub length_by-even : (k : Clock) → length_by k % 2 ≡ 0
length_by-even Unchanged = refl
length_by-even Forward = refl
length_by-even Back = refl

pub day_length-le : (m d : ℕ) → day_length m d ≤ 100
unfolding day_length
day_length-le m d = length_by-le (clock_of m d)

-- Each day adds its readings.
pub through_none : (m : ℕ) → readings_through m 0 ≡ 0
unfolding readings_through
through_none m = refl

pub through_next : (m n : ℕ) → readings_through m (suc n) ≡ readings_through m n + day_length m (suc n)
unfolding readings_through
through_next m n = refl

pub through_more : (m n : ℕ) → readings_through m (n + 1) ≡ readings_through m n + day_length m (n + 1)
unfolding readings_through
through_more m n = simp add-one

pub through_mono : (m n k : ℕ) → n ≤ k → readings_through m n ≤ readings_through m k
unfolding readings_through
through_mono m n k h =
    le_ind (λ k. readings_through m n ≤ readings_through m k) (le_refl _) (λ k l ih. omega arith) k h

pub month_length-is : (m : ℕ) → month_length m ≡ readings_through m (days_in m)
unfolding month_length
month_length-is m = refl

-- `Changes` determines the day and what the clocks do on it: no other result meets it.
pub changes_once : (m s t : ℕ) (k l : Clock) → Changes m s k → Changes m t l → (s ≡ t) × (k ≡ l)
changes_once m s t k l a b = by (eqb s t) refl
  where
    that : (n : ℕ) (c : Clock) → Changes m n c → clock_of m n ≡ c
    that n c x = rw (eq-eqb n n refl) at (x.each n)

    by : (e : Bool) → eqb s t ≡ e → (s ≡ t) × (k ≡ l)
    by true e = (eqb-true s t e, sym (that s k a) ∙ b.each s ∙ rw e)
    by false e =
        let first : k ≡ Unchanged = sym (that s k a) ∙ b.each s ∙ rw e in
        let second : l ≡ Unchanged = sym (that t l b) ∙ a.each t ∙ rw (ne_eqb t s (λ q. eqb-false s t e (sym q))) in
        (a.none first ∙ sym (b.none second), first ∙ sym second)

pub month_lengths : (m : ℕ) → MonthLengths m
month_lengths m = record {
  march = λ y e. omega (arith, by_days (march_changes m y e) (omega arith), march_days m (omega arith));
  november = λ y e. omega (arith, by_days (november_changes m y e) (omega arith), november_days m (omega arith));
  early = λ y. omega (arith, by_days (early_changes m y) (omega arith), days_in-ge m);
  others = λ a b. omega (arith, by_days (other_changes m a b) (omega arith), days_in-ge m);
}
  where
    by_days : {s : ℕ} {k : Clock} → Changes m s k → s ≤ 28 → month_length m ≡ 96 * (days_in m - 1) + length_by k
    by_days {s} {k} change l = month_length-is m ∙ through_past m s k change (days_in m) (omega (arith, days_in-ge m))

pub month_length-le : (m : ℕ) → month_length m ≤ most_readings
month_length-le m = by (ltb (year_of m) 2007) (eqb (month_of_year m) 3) (eqb (month_of_year m) 11) refl refl refl
  where
    by : (a b c : Bool) → ltb (year_of m) 2007 ≡ a → eqb (month_of_year m) 3 ≡ b → eqb (month_of_year m) 11 ≡ c → month_length m ≤ most_readings
    by true b c e f g = omega (arith, (month_lengths m).early (ltb-true _ _ e), days_in-le m)
    by false true c e f g = omega (arith, (month_lengths m).march (ltb-false _ _ e) (eqb-true _ _ f))
    by false false true e f g = omega (arith, (month_lengths m).november (ltb-false _ _ e) (eqb-true _ _ g))
    by false false false e f g = omega (arith, (month_lengths m).others (eqb-false _ _ f) (eqb-false _ _ g), days_in-le m)
