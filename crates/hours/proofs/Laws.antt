-- What callers know of the period of a reading, and of the fixed schedule.
use mathlib.Core.Path.{◌≡◌, refl, ap, ◌∙◌}
use mathlib.Core.Bool.{Bool, true, false}
use mathlib.Core.List.{List, ◌++◌, append_assoc}
use Prim.Native.Nat.{ℕ, zero, suc, ◌+◌, ◌≤◌, ◌<◌}
use native.Mathlib.Nat.{add-zero, zero-add, add-suc, suc-add}
use native.Mathlib.Omega.{arith}
use borrow.Author.Tests.{ne_eqb}
use lib.ListN.{length, get_or, get_or-append}
use lib.Seq.{get_or-append-add}
use Rattle.calendar.specs.Calendar.{season_of, day_kind_of, day_length, quarter_of}
use Rattle.calendar.specs.declared.Season.{Season}
use Rattle.calendar.specs.declared.Season.TheVariants.{Winter, Summer}
use Rattle.calendar.specs.declared.DayKind.{DayKind}
use Rattle.calendar.specs.declared.DayKind.TheVariants.{Weekday, Weekend}
use Rattle.hours.specs.CriticalDays.{is_critical}
use Rattle.calendar.proofs.Laws.{quarter_of-lt}
use Rattle.hours.specs.Hours.{critical, on_peak, window_period, windows, fixed_schedule, row_start, is_peak, period_on_day, period_of}

-- The windows of n quarters have n entries, and entry q of those from quarter a on is the window of quarter a + q.
windows_length : (s : Season) (k : DayKind) (a n : ℕ) → length (windows s k a n) ≡ n
unfolding windows
windows_length s k a zero = refl
windows_length s k a (suc n) = ap suc (windows_length s k (suc a) n)

windows_at : (s : Season) (k : DayKind) (a n q : ℕ) → q < n → get_or (windows s k a n) q 0 ≡ window_period s k (a + q)
unfolding windows
windows_at s k a zero q h = absurd (omega arith)
windows_at s k a (suc n) zero h = rw add-zero
windows_at s k a (suc n) (suc q) h = windows_at s k (suc a) n q (omega arith) ∙ rw (suc-add, add-suc)

-- The row of a season and a day kind where it stands in front, and a schedule past its first row.
module _ (s : Season) (k : DayKind) where
  row_at : (q : ℕ) → q < 96 → get_or (windows s k 0 96) q 0 ≡ window_period s k q
  row_at q h = rw (windows_at s k 0 96 q h, zero-add)

  front_at : (rest : List ℕ) (q : ℕ) → q < 96 → get_or (windows s k 0 96 ++ rest) q 0 ≡ window_period s k q
  front_at rest q h = get_or-append (windows s k 0 96) rest 0 q (rw windows_length h) ∙ row_at q h

  past : (rest : List ℕ) (n : ℕ) → get_or (windows s k 0 96 ++ rest) (96 + n) 0 ≡ get_or rest n 0
  past rest n = rw (windows_length s k 0 96) at (get_or-append-add (windows s k 0 96) rest n 0)

-- The entry of a season, a day kind and a quarter is their window.
pub entry_is : (s : Season) (k : DayKind) (q : ℕ) → q < 96 → get_or fixed_schedule (row_start s k + q) 0 ≡ window_period s k q
unfolding fixed_schedule
entry_is Winter Weekday q h = simp append_assoc (rw (zero-add, front_at))
entry_is Winter Weekend q h = simp append_assoc (rw (past, front_at))
entry_is Summer Weekday q h =
    let e : 192 + q ≡ 96 + (96 + q) = omega arith in
    simp append_assoc (rw (e, past, past, front_at))
entry_is Summer Weekend q h =
    let e : 288 + q ≡ 96 + (96 + (96 + q)) = omega arith in
    simp append_assoc (rw (e, past, past, past, row_at))

-- The hours that a reader finds in document 01: each reading of a day has the period of its window, or is critical on a critical day.
pub hours_are_the_windows : (m x d j : ℕ) → j < day_length m d
    → period_of fixed_schedule m x d j ≡ period_on_day (is_critical x d) (window_period (season_of m) (day_kind_of m d) (quarter_of m d j))
unfolding period_of
hours_are_the_windows m x d j h = rw (entry_is (season_of m) (day_kind_of m d) (quarter_of m d j) (quarter_of-lt m d j h))

-- On a critical day the on-peak quarters of any schedule are critical, on a summer weekend too.
pub critical_on_peak : (s : List ℕ) (m x d j : ℕ) → is_critical x d ≡ true
    → get_or s (row_start (season_of m) (day_kind_of m d) + quarter_of m d j) 0 ≡ on_peak → period_of s m x d j ≡ critical
unfolding period_of period_on_day
critical_on_peak s m x d j h e = rw (h, e)

-- A row starts at one of four places.
pub row_start-le : (s : Season) (k : DayKind) → row_start s k ≤ 288
row_start-le Winter Weekday = omega arith
row_start-le Winter Weekend = omega arith
row_start-le Summer Weekday = omega arith
row_start-le Summer Weekend = omega arith

-- A reading's period is found from the day's row and critical mark and the reading's quarter.
pub period_is : (schedule : List ℕ) (m x d j : ℕ) {row : ℕ} {c : Bool} {q p : ℕ}
    → row ≡ row_start (season_of m) (day_kind_of m d) → c ≡ is_critical x d → q ≡ quarter_of m d j → p ≡ period_on_day c (get_or schedule (row + q) 0)
    → p ≡ period_of schedule m x d j
unfolding period_of
period_is schedule m x d j a b e g = cc

-- A critical day changes on-peak alone.
pub period_stays : (c : Bool) (p : ℕ) → (p ≡ 1 → ⊥) → period_on_day c p ≡ p
unfolding period_on_day
period_stays true p h = rw (ne_eqb p 1 h)
period_stays false p h = refl

-- Periods 0 and 1 are those up to on-peak.
pub is-peak : (p : ℕ) → p ≤ 1 → is_peak p ≡ true
is-peak zero h = refl
is-peak (suc zero) h = refl
is-peak (suc (suc p)) h = absurd (omega arith)

pub not-peak : (p : ℕ) → 1 < p → is_peak p ≡ false
not-peak p h =
    let a : p ≡ 0 → ⊥ = omega arith in
    let b : p ≡ 1 → ⊥ = omega arith in
    rw (ne_eqb _ _ a, ne_eqb _ _ b)
