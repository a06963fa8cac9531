-- The weekday of a month's first day in closed form: days counted from Monday, 1 March 1999, in years that begin in March, so that
-- a leap day ends its year. Each month adds its days, so the count follows the definition's recursion.
use mathlib.Core.Path.{◌≡◌, refl}
use mathlib.Core.Bool.{Bool, true, false, cond, ◌&&◌, ◌||◌, not}
use mathlib.Core.Logic.{⊎_elim}
use Prim.Native.Nat.{ℕ, zero, suc, ◌+◌, ◌-◌, ◌*◌, ◌/◌, ◌%◌, ◌≤◌, ◌<◌}
use native.Mathlib.Nat.{eq-or-lt_of_le}
use native.Mathlib.Numerals.{add-one}
use native.Mathlib.Omega.{arith}
use borrow.Author.Tests.{eq-eqb, ne_eqb, eqb-true, eqb-false}
use lib.Dec.{eqb, eqb→eq}
use lib.ListN.{get_or}
use Rattle.calendar.specs.Calendar.{is_leap, common_days, leap_day, days_in, first_weekday}
use Rattle.calendar.proofs.Below.{below}
use Rattle.calendar.proofs.Laws.{days_in-is}

-- The days from 1 March to the first day of March, April and so on to February.
abbrev pub from_march : ℕ → ℕ
from_march k = (153 * k + 2) / 5

-- The leap days in the first y years from March 1999.
unfoldable pub leap_days : ℕ → ℕ
leap_days y = (y + 3) / 4 + (y + 399) / 400 - (y + 99) / 100

-- The days from 1 March 1999 to the first day of the month at place k of year y; and to that of month m.
abbrev pub days : ℕ → ℕ → ℕ
days y k = 365 * y + leap_days y + from_march k

unfoldable pub count : ℕ → ℕ
count m = days ((m + 10) / 12) ((m + 10) % 12)

-- A quotient rounded up rises by one after each multiple: of 4, 100 and 400.
by4 : (y : ℕ) (b : Bool) → eqb ((2000 + y) % 4) 0 ≡ b → (y + 1 + 3) / 4 ≡ (y + 3) / 4 + cond b 1 0
by4 y true e = omega (arith, eqb-true)
by4 y false e = omega (arith, eqb-false)

by100 : (y : ℕ) (b : Bool) → eqb ((2000 + y) % 100) 0 ≡ b → (y + 1 + 99) / 100 ≡ (y + 99) / 100 + cond b 1 0
by100 y true e = omega (arith, eqb-true)
by100 y false e = omega (arith, eqb-false)

by400 : (y : ℕ) (b : Bool) → eqb ((2000 + y) % 400) 0 ≡ b → (y + 1 + 399) / 400 ≡ (y + 399) / 400 + cond b 1 0
by400 y true e = omega (arith, eqb-true)
by400 y false e = omega (arith, eqb-false)

fewer : (y : ℕ) → (y + 99) / 100 ≤ (y + 3) / 4
fewer y = omega arith

-- Among the quotients' steps a multiple of 400 is one of 100, and that one of 4.
sum : (a b c : Bool) (p q r p' q' r' : ℕ) → p' ≡ p + cond a 1 0 → q' ≡ q + cond b 1 0 → r' ≡ r + cond c 1 0
    → q ≤ p → (a ≡ false → b ≡ true → ⊥) → (b ≡ false → c ≡ true → ⊥)
    → p' + r' - q' ≡ p + r - q + cond (a && (not b || c)) 1 0
sum false false false p q r p' q' r' e f g l u v = omega arith
sum false false true p q r p' q' r' e f g l u v = absurd (v refl refl)
sum false true c p q r p' q' r' e f g l u v = absurd (u refl refl)
sum true false false p q r p' q' r' e f g l u v = omega arith
sum true false true p q r p' q' r' e f g l u v = absurd (v refl refl)
sum true true false p q r p' q' r' e f g l u v = omega arith
sum true true true p q r p' q' r' e f g l u v = omega arith

hundred : (y : ℕ) → eqb (y % 4) 0 ≡ false → eqb (y % 100) 0 ≡ true → ⊥
hundred y p q = omega (arith, eqb-true, eqb-false)

four_hundred : (y : ℕ) → eqb (y % 100) 0 ≡ false → eqb (y % 400) 0 ≡ true → ⊥
four_hundred y p q = omega (arith, eqb-true, eqb-false)

leap : (y : ℕ) → leap_days (y + 1) ≡ leap_days y + cond (is_leap (2000 + y)) 1 0
unfolding is_leap leap_days
leap y =
    sum (eqb ((2000 + y) % 4) 0) (eqb ((2000 + y) % 100) 0) (eqb ((2000 + y) % 400) 0)
    ((y + 3) / 4) ((y + 99) / 100) ((y + 399) / 400) ((y + 1 + 3) / 4) ((y + 1 + 99) / 100) ((y + 1 + 399) / 400)
    (by4 y _ refl) (by100 y _ refl) (by400 y _ refl) (fewer y) (hundred (2000 + y)) (four_hundred (2000 + y))

-- From the first day of a month, but February, to that of the next.
next : (k : ℕ) → k < 11 → from_march (k + 1) ≡ from_march k + get_or common_days ((k + 2) % 12) 0
next k h = eqb→eq _ _ (below (λ k. eqb (from_march (k + 1)) (from_march k + get_or common_days ((k + 2) % 12) 0)) 11 tt k h)

-- A month other than February has no leap day, and February has one in a leap year.
no_leap_day : (m : ℕ) → (m + 10) % 12 < 11 → leap_day m ≡ 0
unfolding leap_day
no_leap_day m h = let e : m % 12 + 1 ≡ 2 → ⊥ = omega arith in simp (ne_eqb _ _ e)

february : (m : ℕ) → (m + 10) % 12 ≡ 11 → leap_day m ≡ cond (is_leap (2000 + (m + 10) / 12)) 1 0
unfolding leap_day
february m h =
    let e : m % 12 + 1 ≡ 2 = omega arith in
    let y : m / 12 ≡ (m + 10) / 12 = omega arith in
    simp (eq-eqb _ _ e, y)

step : (m : ℕ) → count (m + 1) ≡ count m + days_in m
unfolding count
step m = ⊎_elim end within (eq-or-lt_of_le bound)
  where
    bound : (m + 10) % 12 ≤ 11
    bound = omega arith

    end : (m + 10) % 12 ≡ 11 → count (m + 1) ≡ count m + days_in m
    end e =
        let y : (m + 1 + 10) / 12 ≡ (m + 10) / 12 + 1 = omega arith in
        let k : (m + 1 + 10) % 12 ≡ 0 = omega arith in
        let f : m % 12 ≡ 1 = omega arith in
        rw (days_in-is m, y, k, e, f) (omega (arith, leap ((m + 10) / 12), february m e))

    within : (m + 10) % 12 < 11 → count (m + 1) ≡ count m + days_in m
    within h =
        let y : (m + 1 + 10) / 12 ≡ (m + 10) / 12 = omega arith in
        let k : (m + 1 + 10) % 12 ≡ (m + 10) % 12 + 1 = omega arith in
        let f : m % 12 ≡ ((m + 10) % 12 + 2) % 12 = omega arith in
        rw (days_in-is m, y, k, f) (omega (arith, next ((m + 10) % 12) h, no_leap_day m h))

pub closed : (m : ℕ) → first_weekday m ≡ count m % 7
unfolding first_weekday
closed zero = unfold count leap_days in refl
closed (suc m) = rw (← add-one m) (omega (arith, closed m, step m))
