-- The day view over plain values: what holds where there is one, and which part it is.
use mathlib.Core.Path.{◌≡◌, refl, ap}
use mathlib.Core.Bool.{Bool, true, false, cond, ◌||◌}
use mathlib.Core.List.{List}
use Prim.Native.Nat.{ℕ, ◌+◌, ◌-◌, ◌*◌, ◌≤◌}
use native.Mathlib.Omega.{arith}
use borrow.Author.Tests.{eqb-true, ltb-false, not-false}
use lib.Dec.{eqb, ltb}
use lib.ListN.{length, take, drop}
use denote.Ref.{Bor}
use Rattle.calendar.specs.Calendar.{last_month, days_in, day_length, readings_through, month_length}
use Rattle.std.proofs.Common.{Option, Some, None}
use Rattle.std.proofs.lemmas.Bool.{or_parts}
use Rattle.calendar.proofs.Laws.{through_more, through_mono, month_length-is}
use Rattle.registers.specs.Registers.{length_refused}
use Rattle.registers.specs.DayView.{empty_view, part_shown, view_of, IsPart}

pub length-right : (m : ℕ) (r : List ℕ) → length_refused m r ≡ false → length r ≡ month_length m
unfolding length_refused
length-right m r e = eqb-true _ _ (not-false _ e)

-- What holds where there is a view.
pub record Viewed (delivered received : List ℕ) (m d k : ℕ) : Type 0 where
  pub first : 1 ≤ d
  pub last : d ≤ days_in m
  pub delivered_length : length delivered ≡ month_length m
  pub received_length : length received ≡ month_length m
  pub number : k ≤ 1

pub viewed : (delivered received : List ℕ) (m d k : ℕ) → empty_view delivered received m d k ≡ false → Viewed delivered received m d k
unfolding empty_view
viewed xs ys m d k e =
    let (front, number) = or_parts (ltb last_month m || (ltb d 1 || ltb (days_in m) d) || (length_refused m xs || length_refused m ys)) (ltb 1 k) e in
    let (day, lengths) = or_parts (ltb last_month m || (ltb d 1 || ltb (days_in m) d)) (length_refused m xs || length_refused m ys) front in
    let (_, days) = or_parts (ltb last_month m) (ltb d 1 || ltb (days_in m) d) day in
    let (first, last) = or_parts (ltb d 1) (ltb (days_in m) d) days in
    let (one, other) = or_parts (length_refused m xs) (length_refused m ys) lengths in
    record {
      first = ltb-false _ _ first;
      last = ltb-false _ _ last;
      delivered_length = length-right m xs one;
      received_length = length-right m ys other;
      number = ltb-false _ _ number;
    }

-- What the answer to where the part is says.
module _ (delivered received : List ℕ) (m d k : ℕ) where
  pub not_shown : None ≡ part_shown delivered received m d k → empty_view delivered received m d k ≡ true
  unfolding part_shown
  not_shown e = by (empty_view delivered received m d k) e
    where
      by : (b : Bool) → ◌≡◌ {A = Option (ℕ × ℕ)} None (cond b None (Some (readings_through m (d - 1), day_length m d))) → b ≡ true
      by true f = refl
      by false f = absurd (cc)

  pub shown : (s n : ℕ) → Some (s, n) ≡ part_shown delivered received m d k
      → (empty_view delivered received m d k ≡ false) × (s ≡ readings_through m (d - 1)) × (n ≡ day_length m d)
  unfolding part_shown
  shown s n e = by (empty_view delivered received m d k) e
    where
      by : (b : Bool) → ◌≡◌ {A = Option (ℕ × ℕ)} (Some (s, n)) (cond b None (Some (readings_through m (d - 1), day_length m d)))
          → (b ≡ false) × (s ≡ readings_through m (d - 1)) × (n ≡ day_length m d)
      by true f = absurd (cc)
      by false f =
          let same : ◌≡◌ {A = ℕ × ℕ} (s, n) (readings_through m (d - 1), day_length m d) = cc in
          (refl, ap (λ p. p.0) same, ap (λ p. p.1) same)

-- The day's readings end within the month.
pub day_end : (m d : ℕ) → 1 ≤ d → d ≤ days_in m → readings_through m (d - 1) + day_length m d ≤ month_length m
day_end m d h l =
    let e : d - 1 + 1 ≡ d = omega arith in
    omega (arith, month_length-is m, rw e at (through_more m (d - 1)), through_mono m d (days_in m) l)

-- What is handed back: the empty part, or the day's part of the register w that is named.
module _ (delivered received : Bor (List ℕ)) (m d k : ℕ) (v : Bor (List ℕ)) where
  pub empty_part : empty_view delivered.now received.now m d k ≡ true → v.ref_ptr ≡ (delivered.ref_ptr.0, 0 * 4 + delivered.ref_ptr.1)
      → v.now ≡ take 0 (drop 0 delivered.now) → IsPart (view_of delivered received m d k) v
  unfolding view_of
  empty_part e p n = rw e (record { place = p; readings = n })

  pub day_part : empty_view delivered.now received.now m d k ≡ false → (w : Bor (List ℕ)) → cond (eqb k 0) delivered received ≡ w
      → (s t : ℕ) → s ≡ readings_through m (d - 1) → t ≡ day_length m d → v.ref_ptr ≡ (w.ref_ptr.0, s * 4 + w.ref_ptr.1)
      → v.now ≡ take (s + t - s) (drop s w.now) → IsPart (view_of delivered received m d k) v
  unfolding view_of
  day_part e w q s t a b p n =
      let z : s + t - s ≡ t = omega arith in
      rw (e, q, ← a, ← b) (record { place = p; readings = rw z at n })
