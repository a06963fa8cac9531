-- 02 No. 6 as a reader finds it there: the power of the demand line is the least that no pair that counts exceeds.
use mathlib.Core.Path.{◌≡◌, refl, ◌∙◌}
use mathlib.Core.Bool.{Bool, true, false, cond, ◌||◌}
use mathlib.Core.List.{List}
use mathlib.Core.Logic.{⊎_elim}
use Prim.Native.Nat.{ℕ, zero, suc, ◌+◌, ◌*◌, ◌/◌, ◌%◌, ◌≤◌, ◌<◌}
use native.Mathlib.Nat.{le_of_suc-le-suc, eq-or-lt_of_le}
use native.Mathlib.Omega.{arith}
use Rattle.calendar.specs.Calendar.{days_in, clock_of, day_length, readings_through}
use Rattle.calendar.proofs.Laws.{length_by-even}
use Rattle.hours.specs.Hours.{is_peak, period_of}
use Rattle.registers.specs.Registers.{counts_as, pair_counts, pair_sum, day_largest, days_largest, demand_power}

cond-bound : (b : Bool) (v bound : ℕ) → (b ≡ true → 2 * v ≤ bound) → 2 * cond b v 0 ≤ bound
cond-bound true v bound h = h refl
cond-bound false v bound h = omega arith

module _ (schedule : List ℕ) (m x : ℕ) (r : List ℕ) where
  -- Each pair that counts is among those of its day, and each day among those of the month.
  pair_within : (n h k : ℕ) → h < k → pair_counts schedule m x n h ≡ true → pair_sum m r n h ≤ day_largest schedule m x r n k
  unfolding day_largest
  pair_within n h zero l e = absurd (omega arith)
  pair_within n h (suc k) l e =
      ⊎_elim
      (λ same. rw (← same, e) (omega arith))
      (λ less. omega (arith, pair_within n h k less e))
      (eq-or-lt_of_le (le_of_suc-le-suc l))

  day_within : (n k : ℕ) → n < k → day_largest schedule m x r n (day_length m (suc n) / 2) ≤ days_largest schedule m x r k
  unfolding days_largest
  day_within n zero l = absurd (omega arith)
  day_within n (suc k) l =
      ⊎_elim
      (λ same. rw (← same) (omega arith))
      (λ less. omega (arith, day_within n k less))
      (eq-or-lt_of_le (le_of_suc-le-suc l))

  -- A bound of the pairs that count bounds the largest.
  day_bound : (bound n k : ℕ) → ((h : ℕ) → h < k → pair_counts schedule m x n h ≡ true → 2 * pair_sum m r n h ≤ bound)
      → 2 * day_largest schedule m x r n k ≤ bound
  unfolding day_largest
  day_bound bound n zero each = omega arith
  day_bound bound n (suc k) each =
      omega (
        arith,
        day_bound bound n k (λ h l. each h (omega arith)),
        cond-bound (pair_counts schedule m x n k) (pair_sum m r n k) bound (each k (omega arith)),
      )

  days_bound : (bound k : ℕ) → ((n : ℕ) → n < k → 2 * day_largest schedule m x r n (day_length m (suc n) / 2) ≤ bound)
      → 2 * days_largest schedule m x r k ≤ bound
  unfolding days_largest
  days_bound bound zero each = omega arith
  days_bound bound (suc k) each = omega (arith, days_bound bound k (λ n l. each n (omega arith)), each k (omega arith))

-- The pair that begins at an even place.
pair_at : (schedule : List ℕ) (m x : ℕ) (r : List ℕ) (n j : ℕ) → j % 2 ≡ 0 →
    (pair_counts schedule m x n (j / 2) ≡ (is_peak (period_of schedule m x (suc n) j) || is_peak (period_of schedule m x (suc n) (j + 1))))
    × (pair_sum m r n (j / 2) ≡ counts_as r (readings_through m n + j) + counts_as r (readings_through m n + (j + 1)))
unfolding pair_counts pair_sum
pair_at schedule m x r n j even =
    let twice : 2 * (j / 2) ≡ j = omega arith in
    (rw twice, rw twice)

-- The number of pairs of a day is half that of its readings, which is even.
day_even : (m d : ℕ) → day_length m d % 2 ≡ 0
unfolding day_length
day_even m d = length_by-even (clock_of m d)

-- No pair that counts has more than this power, which is twice its sum. A pair is readings j and j + 1 of day n + 1, where j is even.
abbrev NoPairExceeds : List ℕ → ℕ → ℕ → List ℕ → ℕ → Type 0
NoPairExceeds schedule m x r power = (n j : ℕ) → n < days_in m → j < day_length m (suc n) → j % 2 ≡ 0
    → (is_peak (period_of schedule m x (suc n) j) || is_peak (period_of schedule m x (suc n) (j + 1))) ≡ true
    → 2 * (counts_as r (readings_through m n + j) + counts_as r (readings_through m n + (j + 1))) ≤ power

-- That of the demand line is such a power, and the least.
pub half_hours : (schedule : List ℕ) (m x : ℕ) (r : List ℕ) →
    ((n j : ℕ) → n < days_in m → j < day_length m (suc n) → j % 2 ≡ 0
    → (is_peak (period_of schedule m x (suc n) j) || is_peak (period_of schedule m x (suc n) (j + 1))) ≡ true
    → 2 * (counts_as r (readings_through m n + j) + counts_as r (readings_through m n + (j + 1))) ≤ demand_power schedule m x r)
    × ((power : ℕ)
    → ((n j : ℕ) → n < days_in m → j < day_length m (suc n) → j % 2 ≡ 0
    → (is_peak (period_of schedule m x (suc n) j) || is_peak (period_of schedule m x (suc n) (j + 1))) ≡ true
    → 2 * (counts_as r (readings_through m n + j) + counts_as r (readings_through m n + (j + 1))) ≤ power)
    → demand_power schedule m x r ≤ power)
unfolding demand_power pair_counts pair_sum
half_hours schedule m x r = (each, least)
  where
    each : NoPairExceeds schedule m x r (2 * days_largest schedule m x r (days_in m))
    each n j d l even peak =
        let at_j = pair_at schedule m x r n j even in
        let few : j / 2 < day_length m (suc n) / 2 = omega (arith, l, day_even m (suc n)) in
        omega (
          arith,
          at_j.1,
          pair_within schedule m x r n (j / 2) (day_length m (suc n) / 2) few (at_j.0 ∙ peak),
          day_within schedule m x r n (days_in m) d,
        )

    least : (power : ℕ) → NoPairExceeds schedule m x r power → 2 * days_largest schedule m x r (days_in m) ≤ power
    least power none =
        days_bound schedule m x r power (days_in m) λ n d.
        day_bound schedule m x r power n (day_length m (suc n) / 2) λ h l peak.
        none n (2 * h) d (omega (arith, l)) (omega arith) peak
