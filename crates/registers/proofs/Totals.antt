-- A reading is in at most one of the four periods, so the four sums of a register together are at most what a month's register comes to.
use mathlib.Core.Path.{◌≡◌}
use mathlib.Core.Bool.{false, cond}
use mathlib.Core.List.{List}
use Prim.Native.Nat.{ℕ, zero, suc, ◌+◌, ◌*◌, ◌≤◌}
use native.Mathlib.Omega.{arith}
use borrow.Author.Tests.{ne_eqb}
use lib.Dec.{eqb}
use Rattle.calendar.specs.Calendar.{days_in, day_length, readings_through}
use Rattle.calendar.proofs.Laws.{through_next, month_length-is, month_length-le}
use Rattle.hours.specs.Hours.{critical, on_peak, off_peak, discount, period_of}
use Rattle.registers.specs.Registers.{counts_as, day_sum, days_sum, sum_of, reading_limit, month_limit, reading_refused}
use Rattle.registers.proofs.Laws.{readings_within}

-- The sum over the four periods of what each has.
abbrev four_of : (ℕ → ℕ) → ℕ
four_of f = f critical + f on_peak + f off_peak + f discount

one_period : (q v bound : ℕ) → v ≤ bound → four_of (λ p. cond (eqb q p) v 0) ≤ bound
one_period zero v bound h = omega arith
one_period (suc zero) v bound h = omega arith
one_period (suc (suc zero)) v bound h = omega arith
one_period (suc (suc (suc zero))) v bound h = omega arith
one_period (suc (suc (suc (suc q)))) v bound h =
    let n : ℕ = suc (suc (suc (suc q))) in
    rw (ne_eqb n 0 (omega arith), ne_eqb n 1 (omega arith), ne_eqb n 2 (omega arith), ne_eqb n 3 (omega arith)) (omega arith)

module _ (schedule : List ℕ) (m x : ℕ) (r : List ℕ) (bound : ℕ) (within : (i : ℕ) → counts_as r i ≤ bound) where
  day_total_le : (n j : ℕ) → four_of (λ p. day_sum schedule m x r p n j) ≤ j * bound
  unfolding day_sum
  day_total_le n zero = omega arith
  day_total_le n (suc j) =
      omega (arith, day_total_le n j, one_period (period_of schedule m x (suc n) j) (counts_as r (readings_through m n + j)) bound (within _))

  days_total_le : (n : ℕ) → four_of (λ p. days_sum schedule m x r p n) ≤ readings_through m n * bound
  unfolding days_sum
  days_total_le zero = omega arith
  days_total_le (suc n) = rw (through_next m n) (omega (arith, days_total_le n, day_total_le n (day_length m (suc n))))

pub total_within : (schedule : List ℕ) (m x : ℕ) (r : List ℕ) → reading_refused r ≡ false → four_of (sum_of schedule m x r) ≤ month_limit
unfolding sum_of
total_within schedule m x r e =
    omega (
      arith,
      days_total_le schedule m x r reading_limit (readings_within r e) (days_in m),
      month_length-is m,
      month_length-le m,
    )
