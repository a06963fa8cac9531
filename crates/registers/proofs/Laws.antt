-- What callers know of the sums, the demand and the limit of readings: they cite these laws and `Totals`, and open no definition.
use mathlib.Core.Path.{◌≡◌, refl, ◌∙◌, sym, ap}
use mathlib.Core.Bool.{Bool, true, false, cond, not, ◌&&◌, ◌||◌}
use mathlib.Core.List.{List}
use mathlib.Core.Logic.{⊎_elim}
use Prim.Native.Nat.{ℕ, zero, suc, ◌+◌, ◌*◌, ◌/◌, ◌%◌, ◌≤◌, ◌<◌, max}
use native.Mathlib.Nat.{add_assoc, le_of_suc-le-suc, eq-or-lt_of_le}
use native.Mathlib.Numerals.{add-one}
use native.Mathlib.Omega.{arith}
use borrow.Author.Tests.{eq-eqb, ne_eqb, le-ltb, ltb-false, leb-true, leb-false}
use lib.Dec.{eqb, leb, ltb}
use lib.ListN.{length, get_or, get_or-eq_default}
use Rattle.calendar.specs.Calendar.{days_in, day_length, readings_through, month_length}
use Rattle.std.proofs.lemmas.Bool.{or_parts}
use Rattle.calendar.proofs.Laws.{through_next, month_length-is, month_length-le}
use Rattle.hours.specs.Hours.{is_peak, period_of, by_period}
use Rattle.std.specs.Prelude.{Option, Some, None}
use Rattle.std.specs.Option.{unwrap_or}
use Rattle.registers.specs.declared.Tally.{Tally}
use Rattle.registers.specs.Counting.{counts_after}
use Rattle.registers.specs.Registers.{reading, lost_mark, is_lost, last_known, counts_as, day_sum, days_sum, sum_of, pair_counts, pair_sum, day_largest, days_largest, demand_power}
use Rattle.registers.specs.Registers.{reading_limit, month_limit, some_above, reading_refused, first_lost, length_refused, tally_of}

-- What a reading counts as, from the last one before it that isn't lost.
pub known_none : (r : List ℕ) → last_known r 0 ≡ 0
unfolding last_known
known_none r = refl

pub known_more : (r : List ℕ) (i : ℕ) → last_known r (i + 1) ≡ counts_as r i
unfolding last_known counts_as
known_more r i = simp add-one

pub counts_as_lem : (r : List ℕ) (i : ℕ) {last : ℕ} → last ≡ last_known r i → counts_after last (get_or r i 0) ≡ counts_as r i
unfolding counts_after counts_as is_lost reading
counts_as_lem r i e = rw e

pub counts_next : (r : List ℕ) (i j : ℕ) {last : ℕ} → last ≡ counts_as r (i + j) → counts_after last (get_or r (i + (j + 1)) 0) ≡ counts_as r (i + (j + 1))
counts_next r i j e = counts_as_lem r _ (rw (← (add_assoc i j 1), known_more) e)

-- A reading within the limit isn't lost.
pub counts_itself : (last v : ℕ) → v ≤ reading_limit → counts_after last v ≡ v
unfolding counts_after
counts_itself last v h = rw (ne_eqb v lost_mark (omega arith))

-- A bound of all that stands in a register bounds what its readings count as.
pub cond-le : (b : Bool) (v w bound : ℕ) → v ≤ bound → w ≤ bound → cond b v w ≤ bound
cond-le true v w bound h k = h
cond-le false v w bound h k = k

module _ (r : List ℕ) (bound : ℕ) (within : (i : ℕ) → get_or r i 0 ≤ bound) where
  known_le : (i : ℕ) → last_known r i ≤ bound
  unfolding last_known reading
  known_le zero = omega arith
  known_le (suc i) = cond-le (is_lost r i) (last_known r i) (get_or r i 0) bound (known_le i) (within i)

  pub counts_le : (i : ℕ) → counts_as r i ≤ bound
  unfolding counts_as reading
  counts_le i = cond-le (is_lost r i) (last_known r i) (get_or r i 0) bound (known_le i) (within i)

module _ (schedule : List ℕ) (m x : ℕ) (r : List ℕ) where
  -- Each reading adds to the sum of its own period.
  pub sum_none : (p n : ℕ) → day_sum schedule m x r p n 0 ≡ 0
  unfolding day_sum
  sum_none p n = refl

  pub sum_more : (p n j : ℕ) →
      day_sum schedule m x r p n (j + 1) ≡ day_sum schedule m x r p n j + cond (eqb (period_of schedule m x (n + 1) j) p) (counts_as r (readings_through m n + j)) 0
  unfolding day_sum
  sum_more p n j = simp add-one

  -- Each day adds its sum.
  pub days_sum_none : (p : ℕ) → days_sum schedule m x r p 0 ≡ 0
  unfolding days_sum
  days_sum_none p = refl

  pub days_sum_more : (p n : ℕ) → days_sum schedule m x r p (n + 1) ≡ days_sum schedule m x r p n + day_sum schedule m x r p n (day_length m (n + 1))
  unfolding days_sum
  days_sum_more p n = simp add-one

  -- The same of the largest sum of a pair that counts. A pair begins at an even place j.
  pub largest_none : (n : ℕ) → day_largest schedule m x r n 0 ≡ 0
  unfolding day_largest
  largest_none n = refl

  pub largest_more : (n j : ℕ) → j % 2 ≡ 0 →
      day_largest schedule m x r n ((j + 2) / 2)
      ≡ max (day_largest schedule m x r n (j / 2))
      (cond (is_peak (period_of schedule m x (n + 1) j) || is_peak (period_of schedule m x (n + 1) (j + 1)))
      (counts_as r (readings_through m n + j) + counts_as r (readings_through m n + (j + 1)))
      0)
  unfolding day_largest pair_counts pair_sum
  largest_more n j e =
      let next : (j + 2) / 2 ≡ suc (j / 2) = omega arith in
      let place : 2 * (j / 2) ≡ j = omega arith in
      rw (next, place) (simp add-one)

  pub days_largest_none : days_largest schedule m x r 0 ≡ 0
  unfolding days_largest
  days_largest_none = refl

  pub days_largest_more : (n : ℕ) → days_largest schedule m x r (n + 1) ≡ max (days_largest schedule m x r n) (day_largest schedule m x r n (day_length m (n + 1) / 2))
  unfolding days_largest
  days_largest_more n = simp add-one

-- Where none of the first readings is above the limit, the last of them that isn't lost is not.
known_within : (r : List ℕ) (i : ℕ) → some_above r i ≡ false → last_known r i ≤ reading_limit
unfolding some_above last_known
known_within r zero e = omega arith
known_within r (suc i) e =
    let (before, here) = or_parts (some_above r i) (not (is_lost r i) && ltb reading_limit (reading r i)) e in
    by (is_lost r i) (last_known r i) (reading r i) (known_within r i before) here
  where
    by : (b : Bool) (v w : ℕ) → v ≤ reading_limit → (not b && ltb reading_limit w) ≡ false → cond b v w ≤ reading_limit
    by true v w h k = h
    by false v w h k = ltb-false _ _ k

-- One reading more is above the limit, or one before it. What a lost reading counts as makes no difference: it stands before it.
pub above_none : (r : List ℕ) → some_above r 0 ≡ false
unfolding some_above
above_none r = refl

pub above_more : (r : List ℕ) (i : ℕ) → some_above r (i + 1) ≡ (some_above r i || ltb reading_limit (counts_as r i))
unfolding some_above counts_as
above_more r i = simp add-one (by (is_lost r i) (some_above r i) (last_known r i) (reading r i) (known_within r i))
  where
    by : (b s : Bool) (v w : ℕ) → (s ≡ false → v ≤ reading_limit)
        → (s || (not b && ltb reading_limit w)) ≡ (s || ltb reading_limit (cond b v w))
    by true true v w h = refl
    by true false v w h = sym (le-ltb _ _ (h refl))
    by false s v w h = refl

-- A sum has at most the bound of a reading for each reading.
module _ (schedule : List ℕ) (m x : ℕ) (r : List ℕ) (bound : ℕ) (within : (i : ℕ) → counts_as r i ≤ bound) where
  pub sum_le : (p n j : ℕ) → day_sum schedule m x r p n j ≤ j * bound
  unfolding day_sum
  sum_le p n zero = omega arith
  sum_le p n (suc j) = omega (arith, sum_le p n j, cond-le (eqb (period_of schedule m x (suc n) j) p) (counts_as r (readings_through m n + j)) 0 bound (within _) (omega arith))

  pub days_sum_le : (p n : ℕ) → days_sum schedule m x r p n ≤ readings_through m n * bound
  unfolding days_sum
  days_sum_le p zero = omega arith
  days_sum_le p (suc n) = rw (through_next m n) (omega (arith, days_sum_le p n, sum_le p n (day_length m (suc n))))

-- Refusal 8, from a length that was compared.
pub wrong_length : (m : ℕ) (r : List ℕ) {n : ℕ} → n ≡ month_length m → (length r ≡ n → ⊥) → length_refused m r ≡ true
unfolding length_refused
wrong_length m r e h = rw (ne_eqb (length r) (month_length m) (λ f. h (f ∙ sym e)))

pub right_length : (m : ℕ) (r : List ℕ) {n : ℕ} → n ≡ month_length m → length r ≡ n → length_refused m r ≡ false
unfolding length_refused
right_length m r e h = rw (eq-eqb (length r) (month_length m) (h ∙ e))

-- Where no reading is refused, each is within the limit: those past the register's end count 0.
within_first : (r : List ℕ) (n i : ℕ) → some_above r n ≡ false → i < n → counts_as r i ≤ reading_limit
unfolding some_above last_known counts_as
within_first r zero i e h = absurd (omega arith)
within_first r (suc n) i e h =
    ⊎_elim
    (λ same. rw same (known_within r (suc n) e))
    (λ less. within_first r n i (or_parts (some_above r n) _ e).0 less)
    (eq-or-lt_of_le (le_of_suc-le-suc h))

pub readings_within : (r : List ℕ) → reading_refused r ≡ false → (i : ℕ) → counts_as r i ≤ reading_limit
unfolding reading_refused counts_as is_lost reading
readings_within r e i = by (leb (length r) i) refl
  where
    by : (b : Bool) → leb (length r) i ≡ b → counts_as r i ≤ reading_limit
    by true past = rw (get_or-eq_default r 0 (leb-true _ _ past)) (omega arith)
    by false reached = within_first r (length r) i e (leb-false _ _ reached)

-- So each sum of a month's register is at most what one comes to (for the four together see `Totals`).
pub sum_within : (schedule : List ℕ) (m x : ℕ) (r : List ℕ) → reading_refused r ≡ false → (p : ℕ) → sum_of schedule m x r p ≤ month_limit
unfolding sum_of
sum_within schedule m x r e p =
    omega (arith, days_sum_le schedule m x r reading_limit (readings_within r e) p (days_in m), month_length-is m, month_length-le m)

-- The demand's power is twice the sum of two readings, each within the bound.
module _ (schedule : List ℕ) (m x : ℕ) (r : List ℕ) (bound : ℕ) (within : (i : ℕ) → counts_as r i ≤ bound) where
  pair_le : (n h : ℕ) → pair_sum m r n h ≤ 2 * bound
  unfolding pair_sum
  pair_le n h = omega (arith, within (readings_through m n + 2 * h), within (readings_through m n + (2 * h + 1)))

  day_largest_le : (n h : ℕ) → day_largest schedule m x r n h ≤ 2 * bound
  unfolding day_largest
  day_largest_le n zero = omega arith
  day_largest_le n (suc h) = omega (arith, day_largest_le n h, cond-le (pair_counts schedule m x n h) (pair_sum m r n h) 0 (2 * bound) (pair_le n h) (omega arith))

  days_largest_le : (n : ℕ) → days_largest schedule m x r n ≤ 2 * bound
  unfolding days_largest
  days_largest_le zero = omega arith
  days_largest_le (suc n) = omega (arith, days_largest_le n, day_largest_le n (day_length m (suc n) / 2))

  pub power_le : demand_power schedule m x r ≤ 4 * bound
  unfolding demand_power
  power_le = omega (arith, days_largest_le (days_in m))

pub power_within : (schedule : List ℕ) (m x : ℕ) (r : List ℕ) → reading_refused r ≡ false → demand_power schedule m x r ≤ 4 * reading_limit
power_within schedule m x r e = power_le schedule m x r reading_limit (readings_within r e)

-- What there is a tally of.
module _ (schedule : List ℕ) (m x : ℕ) (r : List ℕ) where
  abbrev pub counted : Tally
  counted =
      record {
        abovelimit = reading_refused r;
        firstlost = first_lost r;
        sums = by_period (sum_of schedule m x r);
        power = demand_power schedule m x r;
      }

  pub tally_wrong : None ≡ tally_of schedule m x r → length_refused m r ≡ true
  unfolding tally_of
  tally_wrong = by (length_refused m r)
    where
      by : (b : Bool) → ◌≡◌ {A = Option Tally} None (cond b None (Some counted)) → b ≡ true
      by true e = refl
      by false e = cc

  pub tally_right : (t : Tally) → Some t ≡ tally_of schedule m x r → (length_refused m r ≡ false) × (t ≡ counted)
  unfolding tally_of
  tally_right t = by (length_refused m r)
    where
      by : (b : Bool) → ◌≡◌ {A = Option Tally} (Some t) (cond b None (Some counted)) → (b ≡ false) × (t ≡ counted)
      by true e = cc
      by false e = (refl, ap (λ o. unwrap_or o t) e)
