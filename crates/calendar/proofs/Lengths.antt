-- The day on which the clocks change, and from it the readings through a day in closed form: known to this crate alone.
use mathlib.Core.Path.{◌≡◌, refl, ap}
use mathlib.Core.Bool.{Bool, true, false, cond, ◌&&◌}
use mathlib.Core.Logic.{⊎_elim}
use Prim.Native.Nat.{ℕ, zero, suc, ◌+◌, ◌-◌, ◌*◌, ◌%◌, ◌≤◌, ◌<◌}
use native.Mathlib.Nat.{eq-or-lt_of_le}
use native.Mathlib.Omega.{arith}
use borrow.Author.Tests.{eq-eqb, ne_eqb, lt-ltb, le-ltb, le-leb, eqb-true, eqb-false, ltb-true, leb-true}
use lib.Dec.{eqb, ltb, leb}
use Rattle.calendar.specs.Calendar.{year_of, month_of_year, first_weekday, weekday_of, is_sunday, clock_of, Changes, length_by, day_length, readings_through}
use Rattle.calendar.specs.declared.Clock.{Clock}
use Rattle.calendar.specs.declared.Clock.TheVariants.{Unchanged, Forward, Back}

pub first_weekday-lt : (m : ℕ) → first_weekday m < 7
unfolding first_weekday
first_weekday-lt zero = omega arith
first_weekday-lt (suc m) = omega arith

-- The k-th Sunday is the day that makes 7 × k with the weekday of the first day.
sunday : (k m d : ℕ) → 1 ≤ k → d + first_weekday m ≡ 7 * k → is_sunday k m d ≡ true
unfolding is_sunday weekday_of
sunday k m d l e =
    let w : (first_weekday m + (d - 1)) % 7 ≡ 6 = omega (arith, first_weekday-lt m) in
    let f : 7 * (k - 1) < d = omega (arith, first_weekday-lt m) in
    let t : d ≤ 7 * k = omega arith in
    rw (lt-ltb _ _ f, le-leb _ _ t, eq-eqb _ _ w)

not-sunday : (k m d : ℕ) → (d + first_weekday m ≡ 7 * k → ⊥) → is_sunday k m d ≡ false
unfolding is_sunday weekday_of
not-sunday k m d h = by (ltb (7 * (k - 1)) d) (leb d (7 * k)) (eqb (weekday_of m d) 6) refl refl refl
  where
    by : (a b c : Bool) → ltb (7 * (k - 1)) d ≡ a → leb d (7 * k) ≡ b → eqb (weekday_of m d) 6 ≡ c → (a && (b && c)) ≡ false
    by true true true e f g = absurd (h (omega (arith, ltb-true (7 * (k - 1)) d e, leb-true d (7 * k) f, eqb-true (weekday_of m d) 6 g, first_weekday-lt m)))
    by true true false e f g = refl
    by true false c e f g = refl
    by false b c e f g = refl

sunday_is : (k m d : ℕ) → 1 ≤ k → is_sunday k m d ≡ eqb d (7 * k - first_weekday m)
sunday_is k m d l = by (eqb d (7 * k - first_weekday m)) refl
  where
    by : (b : Bool) → eqb d (7 * k - first_weekday m) ≡ b → is_sunday k m d ≡ b
    by true e = sunday k m d l (omega (arith, eqb-true d (7 * k - first_weekday m) e, first_weekday-lt m))
    by false e = not-sunday k m d (λ q. eqb-false d (7 * k - first_weekday m) e (omega arith))

-- On which day the clocks change, by year and month.
either : (b : Bool) → cond b Unchanged Unchanged ≡ Unchanged
either true = refl
either false = refl

pub early_changes : (m : ℕ) → year_of m < 2007 → Changes m 1 Unchanged
unfolding clock_of
early_changes m y = record {
  some = omega arith;
  each = λ d. rw (lt-ltb (year_of m) 2007 y, either (eqb d 1));
  none = λ e. refl;
}

pub other_changes : (m : ℕ) → (month_of_year m ≡ 3 → ⊥) → (month_of_year m ≡ 11 → ⊥) → Changes m 1 Unchanged
unfolding clock_of
other_changes m a b = record {
  some = omega arith;
  each = λ d. rw (ne_eqb (month_of_year m) 3 a, ne_eqb (month_of_year m) 11 b, either (ltb (year_of m) 2007), either (eqb d 1));
  none = λ e. refl;
}

pub march_changes : (m : ℕ) → 2007 ≤ year_of m → month_of_year m ≡ 3 → Changes m (14 - first_weekday m) Forward
unfolding clock_of
march_changes m y e =
    let other : month_of_year m ≡ 11 → ⊥ = omega arith in
    record {
      some = omega (arith, first_weekday-lt m);
      each = λ d. rw (le-ltb (year_of m) 2007 y, eq-eqb (month_of_year m) 3 e, ne_eqb (month_of_year m) 11 other, sunday_is 2 m d (omega arith));
      none = λ k. absurd (omega (arith, ap length_by k));
    }

pub november_changes : (m : ℕ) → 2007 ≤ year_of m → month_of_year m ≡ 11 → Changes m (7 - first_weekday m) Back
unfolding clock_of
november_changes m y e =
    let other : month_of_year m ≡ 3 → ⊥ = omega arith in
    record {
      some = omega (arith, first_weekday-lt m);
      each = λ d. rw (le-ltb (year_of m) 2007 y, ne_eqb (month_of_year m) 3 other, eq-eqb (month_of_year m) 11 e, sunday_is 1 m d (omega arith));
      none = λ k. absurd (omega (arith, ap length_by k));
    }

-- All other days have 96 readings, so those through a day can be counted.
module _ (m s : ℕ) (k : Clock) (change : Changes m s k) where
  that_day : day_length m s ≡ length_by k
  unfolding day_length
  that_day = rw (change.each s, eq-eqb s s refl)

  other_day : (d : ℕ) → (d ≡ s → ⊥) → day_length m d ≡ 96
  unfolding day_length
  other_day d h = rw (change.each d, ne_eqb d s h)

  pub through_before : (n : ℕ) → n < s → readings_through m n ≡ 96 * n
  unfolding readings_through
  through_before zero h = refl
  through_before (suc n) h = omega (arith, through_before n (omega arith), other_day (suc n) (omega arith))

  pub through_past : (n : ℕ) → s ≤ n → readings_through m n ≡ 96 * (n - 1) + length_by k
  unfolding readings_through
  through_past zero h = absurd (omega (arith, change.some))
  through_past (suc n) h =
      ⊎_elim
      (λ e. omega (arith, through_before n (omega arith), ap (λ (d : ℕ). day_length m d) e, that_day))
      (λ l. omega (arith, through_past n (omega arith), other_day (suc n) (omega arith)))
      (eq-or-lt_of_le h)

-- Where the clocks change on no day, each has 96.
pub through_unchanged : (m : ℕ) → Changes m 1 Unchanged → (n : ℕ) → readings_through m n ≡ 96 * n
through_unchanged m change zero = through_before m 1 Unchanged change 0 (omega arith)
through_unchanged m change (suc n) = omega (arith, through_past m 1 Unchanged change (suc n) (omega arith))
