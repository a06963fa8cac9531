-- A bill neither makes nor loses a watt-hour or a cent: each of its steps splits an amount in two, and the laws of the steps add up.
use mathlib.Core.Path.{◌≡◌, refl}
use mathlib.Core.Bool.{false}
use Prim.Native.Nat.{ℕ, ◌+◌, ◌≤◌, ◌<◌}
use native.Mathlib.Omega.{arith}
use Rattle.hours.specs.Hours.{by_period}
use Rattle.hours.specs.declared.ByPeriod.{ByPeriod}
use Rattle.sharing.specs.declared.Shared.{Shared}
use Rattle.sharing.proofs.Moves.{Sums}
use Rattle.tariff.specs.declared.Rider.{Rider}
use Rattle.tariff.specs.declared.Terms.{Terms}
use Rattle.tariff.specs.declared.PriceList.{PriceList}
use Rattle.tariff.specs.Tariff.{prices_refused}
use Rattle.charges.specs.Charges.{total_of}
use Rattle.charges.proofs.Laws.{settled, granted_le}
use Rattle.billing.specs.Billing.{none, each, kept_by, netted_of, shared_under, paid_of, bill_from}
use Rattle.billing.specs.declared.Bill.{Bill}
use Rattle.billing.specs.declared.Netted.{Netted}
use Rattle.billing.proofs.Laws.{OwnSpent, carried_sums, credit_sums, need_sums, own_spent, spent_under, met_under, conserved_under, dear_spent_under, unspent_sums}
use Rattle.balances.specs.Balances.{Period, Critical, OnPeak, OffPeak, Discount, number_of, amount_of}

-- Laws of the four periods, said of one.
pub by_period_at : (p : Period) (f : ℕ → ℕ) → amount_of p (by_period f) ≡ f (number_of p)
by_period_at Critical f = refl
by_period_at OnPeak f = refl
by_period_at OffPeak f = refl
by_period_at Discount f = refl

pub none_at : (p : Period) → amount_of p none ≡ 0
none_at p = by_period_at p (λ q. 0)

each_at : (p : Period) (a b : ByPeriod) → amount_of p (each ◌+◌ a b) ≡ amount_of p a + amount_of p b
each_at Critical a b = refl
each_at OnPeak a b = refl
each_at OffPeak a b = refl
each_at Discount a b = refl

sums_at : (p : Period) {a b c : ByPeriod} → Sums a b c → amount_of p a + amount_of p b ≡ amount_of p c
sums_at Critical s = s.critical
sums_at OnPeak s = s.onpeak
sums_at OffPeak s = s.offpeak
sums_at Discount s = s.discount

own_at : (p : Period) {need credit : ByPeriod} → OwnSpent need credit → 0 < amount_of p need → amount_of p credit ≡ 0
own_at Critical o = o.critical
own_at OnPeak o = o.onpeak
own_at OffPeak o = o.offpeak
own_at Discount o = o.discount

-- What a bill b has, from what was carried and stood before it and from the sums of its registers.
pub record BillBalanced (carried : ByPeriod) (standing : ℕ) (deliveries exports : ByPeriod) (b : Bill) : Type 0 where
  pub exported : (p : Period) →
      amount_of p exports + amount_of p carried
      ≡ amount_of p b.own + amount_of p b.out + amount_of p b.paid + amount_of p b.forfeited + amount_of p b.left
  pub delivered : (p : Period) → amount_of p deliveries ≡ amount_of p b.own + amount_of p b.into + amount_of p b.billed
  pub moved : total_of b.out ≡ total_of b.into
  pub money : b.charges.granted + standing ≡ b.charges.used + b.charges.standing
  pub charged : (p q : Period) → 0 < amount_of p b.billed → number_of q ≤ number_of p
      → (amount_of q b.left ≡ 0) × (amount_of q b.paid ≡ 0)

-- Where a period is charged for, no credit is unspent there and in each dearer period.
module _ (rider : Rider) (credit need : ByPeriod) (o : OwnSpent need credit) where
  own_unspent : (p : Period) → 0 < amount_of p (shared_under rider credit need).billed → amount_of p (shared_under rider credit need).unspent ≡ 0
  own_unspent p h = omega (arith, sums_at p (spent_under rider credit need), own_at p o (omega (arith, sums_at p (met_under rider credit need))))

  dear_unspent : (p q : Period) → 0 < amount_of p (shared_under rider credit need).billed → number_of q ≤ number_of p
      → amount_of q (shared_under rider credit need).unspent ≡ 0
  dear_unspent Critical Critical h d = own_unspent Critical h
  dear_unspent Critical OnPeak h d = omega arith
  dear_unspent Critical OffPeak h d = omega arith
  dear_unspent Critical Discount h d = omega arith
  dear_unspent OnPeak Critical h d = (dear_spent_under rider credit need).onpeak_critical h
  dear_unspent OnPeak OnPeak h d = own_unspent OnPeak h
  dear_unspent OnPeak OffPeak h d = omega arith
  dear_unspent OnPeak Discount h d = omega arith
  dear_unspent OffPeak Critical h d = (dear_spent_under rider credit need).offpeak_critical h
  dear_unspent OffPeak OnPeak h d = (dear_spent_under rider credit need).offpeak_onpeak h
  dear_unspent OffPeak OffPeak h d = own_unspent OffPeak h
  dear_unspent OffPeak Discount h d = omega arith
  dear_unspent Discount Critical h d = (dear_spent_under rider credit need).discount_critical h
  dear_unspent Discount OnPeak h d = (dear_spent_under rider credit need).discount_onpeak h
  dear_unspent Discount OffPeak h d = (dear_spent_under rider credit need).discount_offpeak h
  dear_unspent Discount Discount h d = own_unspent Discount h

module _ (t : Terms) (l : PriceList) (carried : ByPeriod) (standing m : ℕ) (delivered exported : ByPeriod) (power : ℕ) where
  pub bill_balanced : BillBalanced carried standing delivered exported (bill_from t l carried standing m delivered exported power)
  unfolding bill_from
  bill_balanced =
      let kept : ByPeriod = kept_by t.rider m carried in
      let n : Netted = netted_of kept delivered exported in
      let s : Shared = shared_under t.rider n.credit n.need in
      record {
        exported = λ p.
            omega (
              arith,
              sums_at p (carried_sums t.rider m carried),
              sums_at p (credit_sums kept delivered exported),
              each_at p kept exported,
              sums_at p (spent_under t.rider n.credit n.need),
              sums_at p (unspent_sums t.rider s.unspent),
            );
        delivered = λ p. omega (arith, sums_at p (need_sums kept delivered exported), sums_at p (met_under t.rider n.credit n.need));
        moved = conserved_under t.rider n.credit n.need;
        money = omega (arith, (settled t l s.billed (paid_of t.rider s.unspent) power standing).funds);
        charged = λ p q h d. omega (arith, sums_at q (unspent_sums t.rider s.unspent), dear_unspent t.rider n.credit n.need (own_spent kept delivered exported) p q h d);
      }

  -- A bill adds at most the month's export to what is carried and stands, since a Wh that is paid grants at most a cent.
  pub bill_held : prices_refused l ≡ false →
      total_of (bill_from t l carried standing m delivered exported power).left
      + (bill_from t l carried standing m delivered exported power).charges.standing
      ≤ total_of carried + standing + total_of exported
  unfolding bill_from
  bill_held h =
      let b : Bill = bill_from t l carried standing m delivered exported power in
      let s : BillBalanced carried standing delivered exported b = bill_balanced in
      omega (
        arith,
        s.exported Critical,
        s.exported OnPeak,
        s.exported OffPeak,
        s.exported Discount,
        s.money,
        granted_le t l b.billed b.paid power standing h,
      )
