-- The steps of the one pass over a register, over plain values: where a day starts, each of its pairs, and where it ends.
use mathlib.Core.Path.{◌≡◌, refl, ◌∙◌}
use mathlib.Core.Bool.{Bool, true, false, cond, ◌||◌}
use mathlib.Core.List.{List}
use Prim.Native.Nat.{ℕ, ◌+◌, ◌*◌, ◌%◌, ◌^◌, ◌≤◌, ◌<◌, max}
use native.Mathlib.Nat.{add-zero, add_assoc}
use native.Mathlib.Omega.{arith}
use borrow.Author.Tests.{le-ltb}
use lib.Dec.{eqb, ltb}
use lib.ListN.{length, get_or}
use Rattle.std.specs.Prelude.{Option, Some, None}
use Rattle.calendar.specs.Calendar.{days_in, day_length, readings_through, month_length, most_readings}
use Rattle.calendar.proofs.Laws.{through_none, through_more, through_mono, month_length-is, month_length-le}
use Rattle.hours.specs.Hours.{critical, on_peak, off_peak, discount, is_peak, period_of}
use Rattle.registers.specs.declared.Count.{Count}
use Rattle.registers.specs.declared.Tally.{Tally}
use Rattle.registers.specs.Registers.{counts_as, day_sum, days_sum, sum_of, demand_power, reading_limit, reading_refused, first_lost, tally_of}
use Rattle.registers.specs.Counting.{Room, counts_after, AddedTo, Added, AddedPair, FilledPair, Counted, DayCounted}
use Rattle.registers.proofs.Laws.{sum_none, sum_more, days_sum_none, days_sum_more, largest_none, largest_more, days_largest_none, days_largest_more}
use Rattle.registers.proofs.Laws.{cond-le, known_none, known_more, counts_as_lem, counts_itself, counts_next, counts_le, above_none, above_more, sum_le, days_sum_le, power_le, wrong_length, right_length}

-- Where the two readings of a pair fit, the second fits after the first.
pub room_after : (a b : Count) {p v : ℕ} → Room 2 a → b.last ≤ 4294967295 → Added a p v b → Room 1 b
room_after a b {p} {v} k h s = record {
  critical = fits critical a.sums.critical k.critical s.sums.critical;
  onpeak = fits on_peak a.sums.onpeak k.onpeak s.sums.onpeak;
  offpeak = fits off_peak a.sums.offpeak k.offpeak s.sums.offpeak;
  discount = fits discount a.sums.discount k.discount s.sums.discount;
}
  where
    fits : (q u : ℕ) {w : ℕ} → u + 2 * 4294967295 < 2 ^ 64 → w ≡ u + cond (eqb p q) v 0 → w + 1 * 4294967295 < 2 ^ 64
    fits q u g e = omega (arith, cond-le (eqb p q) v 0 4294967295 (omega (arith, s.last)) (omega arith))

-- A pair reading after reading; the pair is asked last.
pub pair_both : (a b d : Count) (w : ℕ) {p q v largest : ℕ} → Added a p v b → Added b q (counts_after b.last w) d
    → largest ≡ max d.largest (cond (is_peak p || is_peak q) (b.last + d.last) 0)
    → AddedPair a p q v (counts_after v w)
    (record { sums = d.sums; largest = largest; above = d.above; last = d.last })
pair_both a b d w s t e = record {
  critical = rw (← s.sums.critical, ← s.last) t.sums.critical;
  onpeak = rw (← s.sums.onpeak, ← s.last) t.sums.onpeak;
  offpeak = rw (← s.sums.offpeak, ← s.last) t.sums.offpeak;
  discount = rw (← s.sums.discount, ← s.last) t.sums.discount;
  largest = rw (← s.largest, ← t.largest, ← s.last, ← t.last) e;
  above = rw (← s.above, ← s.last) t.above;
  last = rw (← s.last) t.last;
}

-- A pair whose sum is within the limit of a reading: neither is lost, both are added at once in their period, and neither is above the limit.
pub pair_known : (a d : Count) (v w : ℕ) {p q : ℕ} → v + w ≤ reading_limit → AddedPair a p q v w d
    → FilledPair a p q v w d
pair_known a d v w h s = rw (counts_itself a.last v (omega arith), counts_itself v w (omega arith)) s

pub neither_above : (b : Bool) (v w : ℕ) → v + w ≤ reading_limit → b ≡ ((b || ltb reading_limit v) || ltb reading_limit w)
neither_above b v w h = rw (le-ltb reading_limit v (omega arith), le-ltb reading_limit w (omega arith)) (by b)
  where
    by : (b : Bool) → b ≡ ((b || false) || false)
    by true = refl
    by false = refl

split_sum : (p q u v w : ℕ) {sum : ℕ} → sum ≡ u + cond (eqb p q) (v + w) 0 → sum ≡ u + cond (eqb p q) v 0 + cond (eqb p q) w 0
split_sum p q u v w = by (eqb p q)
  where
    by : (b : Bool) {sum : ℕ} → sum ≡ u + cond b (v + w) 0 → sum ≡ u + cond b v 0 + cond b w 0
    by true e = omega arith
    by false e = omega arith

-- Both readings of a pair added at once.
pub pair_at_once : (a b : Count) (p v w : ℕ) → v + w ≤ reading_limit → AddedTo a.sums p (v + w) b.sums
    → b.largest ≡ max a.largest (cond (is_peak p || is_peak p) (v + w) 0) → b.above ≡ a.above → b.last ≡ w → AddedPair a p p v w b
pair_at_once a b p v w h s l above last = record {
  critical = split_sum p critical a.sums.critical v w s.critical;
  onpeak = split_sum p on_peak a.sums.onpeak v w s.onpeak;
  offpeak = split_sum p off_peak a.sums.offpeak v w s.offpeak;
  discount = split_sum p discount a.sums.discount v w s.discount;
  largest = l;
  above = above ∙ neither_above a.above v w h;
  last = last;
}

module _ (schedule : List ℕ) (m x : ℕ) (r : List ℕ) where
  pub month_start : (a : Count) → a.sums.critical ≡ 0 → a.sums.onpeak ≡ 0 → a.sums.offpeak ≡ 0 → a.sums.discount ≡ 0 → a.largest ≡ 0 → a.above ≡ false → a.last ≡ 0
      → Counted schedule m x r 0 a
  month_start a critical_none onpeak_none offpeak_none discount_none largest_is above_is last_is = record {
    critical = omega (arith, days_sum_none schedule m x r critical);
    onpeak = omega (arith, days_sum_none schedule m x r on_peak);
    offpeak = omega (arith, days_sum_none schedule m x r off_peak);
    discount = omega (arith, days_sum_none schedule m x r discount);
    largest = omega (arith, days_largest_none schedule m x r);
    above = rw (through_none m, above_none r) above_is;
    last = rw (through_none m, known_none r) last_is;
  }

  pub day_start : (n : ℕ) (a : Count) → Counted schedule m x r n a → DayCounted schedule m x r n 0 a
  day_start n a k = record {
    critical = omega (arith, k.critical, sum_none schedule m x r critical n);
    onpeak = omega (arith, k.onpeak, sum_none schedule m x r on_peak n);
    offpeak = omega (arith, k.offpeak, sum_none schedule m x r off_peak n);
    discount = omega (arith, k.discount, sum_none schedule m x r discount n);
    largest = omega (arith, k.largest, largest_none schedule m x r n);
    above = rw add-zero k.above;
    last = rw add-zero k.last;
  }

  pub pair_step : (n j : ℕ) (b d : Count) {start p q : ℕ} → start ≡ readings_through m n → j % 2 ≡ 0
      → p ≡ period_of schedule m x (n + 1) j → q ≡ period_of schedule m x (n + 1) (j + 1) → DayCounted schedule m x r n j b
      → FilledPair b p q (get_or r (start + j) 0) (get_or r (start + (j + 1)) 0) d
      → DayCounted schedule m x r n (j + 2) d
  pair_step n j b d {start} {p} {q} place even e f k s = record {
    critical = sum critical k.critical s.critical;
    onpeak = sum on_peak k.onpeak s.onpeak;
    offpeak = sum off_peak k.offpeak s.offpeak;
    discount = sum discount k.discount s.discount;
    largest = rw (largest_more schedule m x r n j even, ← e, ← f, ← one, ← two) (omega (arith, k.largest, s.largest));
    above = rw (after, above_more, ← two, ← (add_assoc (readings_through m n) j 1), above_more, ← one, ← k.above) s.above;
    last = rw (after, known_more, ← two) s.last;
  }
    where
      one : counts_after b.last (get_or r (start + j) 0) ≡ counts_as r (readings_through m n + j)
      one = rw place (counts_as_lem r (readings_through m n + j) k.last)

      two : counts_after (counts_after b.last (get_or r (start + j) 0)) (get_or r (start + (j + 1)) 0) ≡ counts_as r (readings_through m n + (j + 1))
      two = rw place (counts_next r (readings_through m n) j (rw place at one))

      after : readings_through m n + (j + 2) ≡ readings_through m n + (j + 1) + 1
      after = omega arith

      sum : (c : ℕ) {u w : ℕ} → u ≡ days_sum schedule m x r c n + day_sum schedule m x r c n j
          → w ≡ u + cond (eqb p c) (counts_after b.last (get_or r (start + j) 0)) 0
          + cond (eqb q c) (counts_after (counts_after b.last (get_or r (start + j) 0)) (get_or r (start + (j + 1)) 0)) 0
          → w ≡ days_sum schedule m x r c n + day_sum schedule m x r c n (j + 2)
      sum c g h =
          let next : j + 2 ≡ j + 1 + 1 = omega arith in
          rw (next, sum_more schedule m x r c n (j + 1), sum_more schedule m x r c n j, ← e, ← f, ← one, ← two) (omega arith)

  pub day_end : (n : ℕ) (b : Count) → DayCounted schedule m x r n (day_length m (n + 1)) b → Counted schedule m x r (n + 1) b
  day_end n b d = record {
    critical = omega (arith, days_sum_more schedule m x r critical n, d.critical);
    onpeak = omega (arith, days_sum_more schedule m x r on_peak n, d.onpeak);
    offpeak = omega (arith, days_sum_more schedule m x r off_peak n, d.offpeak);
    discount = omega (arith, days_sum_more schedule m x r discount n, d.discount);
    largest = omega (arith, days_largest_more schedule m x r n, d.largest);
    above = rw (through_more m n) d.above;
    last = rw (through_more m n) d.last;
  }

  -- The place of a reading of the day after the first n is within the month.
  pub in_month : (n j : ℕ) → n < days_in m → j ≤ day_length m (n + 1) → readings_through m n + j ≤ month_length m
  in_month n j h l = omega (arith, month_length-is m, through_more m n, through_mono m (n + 1) (days_in m) (omega arith))

  -- Sums of at most a month's readings of 32 bits have room for another pair.
  pub room : ((i : ℕ) → get_or r i 0 ≤ 4294967295) → (n j : ℕ) (b : Count) → DayCounted schedule m x r n j b
      → n < days_in m → j ≤ day_length m (n + 1) → Room 2 b
  room w n j b d h l =
      let few : readings_through m n + j ≤ most_readings = omega (arith, in_month n j h l, month_length-le m) in
      record {
        critical = fits critical d.critical few;
        onpeak = fits on_peak d.onpeak few;
        offpeak = fits off_peak d.offpeak few;
        discount = fits discount d.discount few;
      }
    where
      fits : (p : ℕ) {u : ℕ} → u ≡ days_sum schedule m x r p n + day_sum schedule m x r p n j → readings_through m n + j ≤ most_readings → u + 2 * 4294967295 < 2 ^ 64
      fits p e few =
          let v = counts_le r 4294967295 w in
          omega (arith, days_sum_le schedule m x r 4294967295 v p n, sum_le schedule m x r 4294967295 v p n j)

  -- The power of a month's readings of 32 bits fits 64.
  pub power_fits : ((i : ℕ) → get_or r i 0 ≤ 4294967295) → (a : Count) → Counted schedule m x r (days_in m) a → 2 * a.largest < 2 ^ 64
  unfolding demand_power
  power_fits w a k = omega (arith, k.largest, power_le schedule m x r 4294967295 (counts_le r 4294967295 w))

  -- The tally of a register of the wrong length, and of one of the right length that was counted.
  pub wrong_tally : (length r ≡ month_length m → ⊥) → None ≡ tally_of schedule m x r
  unfolding tally_of
  wrong_tally h = rw (wrong_length m r refl h)

  pub right_tally : (a : Count) {b : Bool} → length r ≡ month_length m → b ≡ first_lost r → Counted schedule m x r (days_in m) a →
      ◌≡◌ {A = Option Tally}
      (Some (record {
        abovelimit = a.above;
        firstlost = b;
        sums = a.sums;
        power = 2 * a.largest;
      }))
      (tally_of schedule m x r)
  unfolding tally_of sum_of demand_power reading_refused
  right_tally a h e k =
      rw (
        right_length m r refl h,
        e,
        k.critical,
        k.onpeak,
        k.offpeak,
        k.discount,
        k.largest,
        k.above,
        h,
        month_length-is m,
      )
