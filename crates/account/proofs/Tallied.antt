-- A billing from the tallies of its registers: the number is the table's, and the amounts of an accepted bill are those of the steps.
use mathlib.Core.Path.{◌≡◌, refl, ◌∙◌, sym}
use mathlib.Core.Bool.{Bool, true, false, not, ◌||◌, or-true}
use mathlib.Core.List.{List, [], ◌∷◌}
use Prim.Native.Nat.{ℕ}
use native.Mathlib.Omega.{arith}
use Rattle.std.specs.Prelude.{Some, None}
use Rattle.hours.specs.CriticalDays.{critical_refused}
use Rattle.hours.specs.Hours.{fixed_schedule, by_period}
use Rattle.registers.specs.Registers.{sum_of, demand_power, length_refused, reading_refused, first_lost, tally_of}
use Rattle.registers.proofs.Laws.{tally_wrong, tally_right, power_within}
use Rattle.registers.proofs.Totals.{total_within}
use Rattle.tariff.proofs.Laws.{nameplate_within}
use Rattle.billing.specs.Billing.{bill_or_none}
use Rattle.registers.specs.declared.Tally.{Tally}
use lib.Dec.{eqb, ltb}
use Rattle.calendar.specs.Calendar.{last_month}
use Rattle.refusals.specs.declared.Condition.{Condition}
use Rattle.refusals.specs.declared.Faults.{Faults}
use Rattle.refusals.specs.declared.Refusal.{Refusal}
use Rattle.refusals.specs.Numbers.{number}
use Rattle.refusals.proofs.Numbers.{number_above}
use Rattle.refusals.specs.Table.{row, first_of, billing_row}
use Rattle.billing.proofs.Limits.{billable_true, at_most}
use Rattle.account.specs.declared.Account.{Account}
use Rattle.account.specs.Refusals.{is_fresh, unusable, billing_number}
use Rattle.account.specs.Account.{schedule_of, bill_of}
use Rattle.account.specs.Tallies.{condition_of, faults_from}
use Rattle.account.proofs.Accepted.{BillingAccepted, billing_accepted}

-- Nothing is wrong.
abbrev NoFaults : Faults → Type 0
NoFaults f = (f.wronglength ≡ false) × ((f.wrongdays ≡ false) × ((f.abovelimit ≡ false) × (f.firstlost ≡ false)))

-- The hours that an account is billed by.
pub schedule_is : (a : Account) → schedule_of a ≡ fixed_schedule
unfolding schedule_of
schedule_is a = refl

module _ (a : Account) (m : ℕ) (delivered received : List ℕ) (x : ℕ) where
  -- Sums of accepted registers are far below the limits.
  pub bill_is : billing_number a m delivered received x ≡ 0 →
      bill_or_none a.terms a.prices a.carried a.standing m
      (by_period (sum_of (schedule_of a) m x delivered))
      (by_period (sum_of (schedule_of a) m x received))
      (demand_power (schedule_of a) m x delivered)
      ≡ bill_of a m delivered received x
  unfolding bill_or_none bill_of
  bill_is e =
      let k : BillingAccepted a m delivered received x = billing_accepted a m delivered received x e in
      let d = total_within (schedule_of a) m x delivered k.delivered_readings in
      let r = total_within (schedule_of a) m x received k.received_readings in
      rw (billable_true a.terms a.prices a.carried a.standing
      (by_period (sum_of (schedule_of a) m x delivered))
      (by_period (sum_of (schedule_of a) m x received))
      (demand_power (schedule_of a) m x delivered)
      (record {
        prices = k.account.holds.prices;
        nameplate = omega (arith, (nameplate_within a.terms k.account.holds.capacity).most);
        carried_fits = at_most _ _ k.account.possible.carried;
        delivered_fits = record { critical = omega (arith, d); onpeak = omega (arith, d); offpeak = omega (arith, d); discount = omega (arith, d) };
        exported_fits = record { critical = omega (arith, r); onpeak = omega (arith, r); offpeak = omega (arith, r); discount = omega (arith, r) };
        power_fits = omega (arith, power_within (schedule_of a) m x delivered k.delivered_readings);
        standing_fits = k.account.possible.standing;
      }))

  -- The number and the bill, from the tallies of registers of the month's length.
  pub number_found : (s : List ℕ) (t g : Tally) (d : Condition) (wrongdays : Bool) (faults : Faults)
      → d ≡ condition_of a → s ≡ schedule_of a → Some t ≡ tally_of s m x delivered → Some g ≡ tally_of s m x received
      → wrongdays ≡ critical_refused m x → faults ≡ faults_from t g wrongdays
      → billing_row d.fresh d.unusable a.next m faults ≡ billing_number a m delivered received x
  unfolding billing_row billing_number
  number_found s t g d wrongdays faults k i j l o p =
      let (dl, dt) = tally_right s m x delivered t j in
      let (rl, rt) = tally_right s m x received g l in
      rw (k, p, o, dt, rt, dl, rl)

  pub bill_found : (s : List ℕ) (t g : Tally) → s ≡ schedule_of a → Some t ≡ tally_of s m x delivered → Some g ≡ tally_of s m x received
      → 0 ≡ billing_number a m delivered received x
      → bill_or_none a.terms a.prices a.carried a.standing m t.sums g.sums t.power ≡ bill_of a m delivered received x
  bill_found s t g i j l e =
      rw ((tally_right s m x delivered t j).1, (tally_right s m x received g l).1, i) (bill_is (sym e))

  -- Rows 1, 3, 11 and 7 need no reading.
  pub early_number : (r : Refusal) (d : Condition) (f : Faults) → d ≡ condition_of a → NoFaults f
      → number r ≡ billing_row d.fresh d.unusable a.next m f → number r ≡ billing_number a m delivered received x
  unfolding billing_row billing_number
  early_number r d f k (e8, (e9, (e10, e13))) e =
      by (is_fresh a.stage) (unusable a) (ltb last_month a.next) (not (eqb m a.next)) (e ∙ rw (k, e8, e9, e10, e13))
    where
      by : (p q b c : Bool) → number r ≡ first_of (row 1 p ∷ row 3 q ∷ row 11 b ∷ row 7 c ∷ row 8 false ∷ row 9 false ∷ row 10 false ∷ row 13 false ∷ [])
          → number r
          ≡ first_of (row 1 p ∷ row 3 q ∷ row 11 b ∷ row 7 c ∷ row 8 (length_refused m delivered || length_refused m received)
          ∷ row 9 (critical_refused m x) ∷ row 10 (reading_refused delivered || reading_refused received) ∷ row 13 (first_lost delivered || first_lost received) ∷ [])
      by true q b c h = h
      by false true b c h = h
      by false false true c h = h
      by false false false true h = h
      by false false false false h = absurd (omega (arith, h, number_above r))

  -- Where they don't apply, row 8 is next: it needs the tallies alone.
  length_number : (d : Condition) (f : Faults) → d ≡ condition_of a → NoFaults f → 0 ≡ billing_row d.fresh d.unusable a.next m f
      → (length_refused m delivered || length_refused m received) ≡ true → 8 ≡ billing_number a m delivered received x
  unfolding billing_row billing_number
  length_number d f k (e8, (e9, (e10, e13))) e h =
      rw h (by (is_fresh a.stage) (unusable a) (ltb last_month a.next) (not (eqb m a.next)) (e ∙ rw (k, e8, e9, e10, e13)))
    where
      by : (p q b c : Bool) → 0 ≡ first_of (row 1 p ∷ row 3 q ∷ row 11 b ∷ row 7 c ∷ row 8 false ∷ row 9 false ∷ row 10 false ∷ row 13 false ∷ [])
          → 8
          ≡ first_of (row 1 p ∷ row 3 q ∷ row 11 b ∷ row 7 c ∷ row 8 true
          ∷ row 9 (critical_refused m x) ∷ row 10 (reading_refused delivered || reading_refused received) ∷ row 13 (first_lost delivered || first_lost received) ∷ [])
      by true q b c h = absurd (omega (arith, h))
      by false true b c h = absurd (omega (arith, h))
      by false false true c h = absurd (omega (arith, h))
      by false false false true h = absurd (omega (arith, h))
      by false false false false h = refl

  pub delivered_number : (s : List ℕ) (d : Condition) (f : Faults) → d ≡ condition_of a → NoFaults f → 0 ≡ billing_row d.fresh d.unusable a.next m f
      → None ≡ tally_of s m x delivered → 8 ≡ billing_number a m delivered received x
  delivered_number s d f k n e h = length_number d f k n e (rw (tally_wrong s m x delivered h))

  pub received_number : (s : List ℕ) (d : Condition) (f : Faults) → d ≡ condition_of a → NoFaults f → 0 ≡ billing_row d.fresh d.unusable a.next m f
      → None ≡ tally_of s m x received → 8 ≡ billing_number a m delivered received x
  received_number s d f k n e h = length_number d f k n e (rw (tally_wrong s m x received h) (or-true (length_refused m delivered)))
