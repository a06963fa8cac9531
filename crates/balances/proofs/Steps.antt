-- One call on an account: what its answer and the account after it have together is what the account had and the call brought.
use mathlib.Core.Path.{◌≡◌, refl}
use mathlib.Core.Bool.{Bool, true, false, cond, ◌&&◌}
use Prim.Native.Nat.{ℕ, ◌+◌, ◌*◌, ◌≤◌}
use native.Mathlib.Omega.{arith}
use borrow.Author.Tests.{eqb-true}
use lib.Dec.{eqb}
use Rattle.hours.specs.Hours.{by_period}
use Rattle.hours.specs.declared.ByPeriod.{ByPeriod}
use Rattle.registers.specs.Registers.{sum_of, demand_power, month_limit}
use Rattle.registers.proofs.Totals.{total_within}
use Rattle.charges.specs.Charges.{total_of}
use Rattle.billing.specs.Billing.{no_bill}
use Rattle.account.specs.declared.Stage.TheVariants.{Fresh}
use Rattle.account.specs.declared.Account.{Account}
use Rattle.account.specs.declared.ClosingAmounts.{ClosingAmounts}
use Rattle.account.specs.Refusals.{is_open, highest_next, contents_refused, opening_number, repricing_number, billing_number, closing_number}
use Rattle.account.specs.Account.{no_amounts, schedule_of, bill_of, opening_reply, repricing_reply, billing_reply, closing_reply}
use Rattle.account.proofs.Accepted.{contents_accepted, opening_accepted, repricing_accepted, billing_accepted}
use Rattle.records.specs.declared.Answer.{Answer}
use Rattle.balances.specs.Calls.{Call, opening, repricing, billing, closing, answer_of, account_after}
use Rattle.balances.specs.Balances.{Period, Critical, OnPeak, OffPeak, Discount, amount_of, delivered_by, exported_by, ChargedLast, StartsFresh}
use Rattle.balances.proofs.Bills.{by_period_at, none_at, bill_balanced, bill_held}

-- What an account has that calls reach from a fresh one. What it holds came month by month, a cent at most for a Wh.
pub record Reached (a : Account) : Type 0 where
  pub fresh : a.stage ≡ Fresh → total_of a.carried + a.standing ≡ 0
  pub held : total_of a.carried + a.standing ≤ a.next * month_limit
  pub contents : (is_open a.stage && contents_refused a.terms a.prices) ≡ false

pub fresh_reached : (a : Account) → StartsFresh a → Reached a
fresh_reached a f =
    record {
      fresh = λ e. rw (f.carried, f.standing);
      held = rw (f.carried, f.standing) (omega arith);
      contents = rw f.stage;
    }

-- From account a to account b with answer x, where the registers brought those Wh: b is reached, its next month is no further than it may be
-- unless that of a was, and the amounts balance.
pub record Step (a : Account) (x : Answer) (exported_wh delivered_wh : Period → ℕ) (b : Account) : Type 0 where
  pub reached : Reached b
  pub next : a.next ≤ highest_next → b.next ≤ highest_next
  pub exported : (p : Period) →
      exported_wh p + amount_of p a.carried
      ≡ amount_of p x.bill.own + amount_of p x.bill.out + amount_of p x.bill.paid
      + (amount_of p x.bill.forfeited + amount_of p x.amounts.forfeited) + amount_of p b.carried
  pub delivered : (p : Period) →
      delivered_wh p ≡ amount_of p x.bill.own + amount_of p x.bill.into + amount_of p x.bill.billed
  pub moved : total_of x.bill.out ≡ total_of x.bill.into
  pub money :
      x.bill.charges.granted + a.standing ≡ x.bill.charges.used + x.amounts.refunded + b.standing
  pub charged : ChargedLast x

-- The step of a call.
abbrev pub StepOf : Account → Call → Type 0
StepOf a c =
    Step a (answer_of a c)
    (λ p. cond (eqb (answer_of a c).number 0) (exported_by p a c) 0)
    (λ p. cond (eqb (answer_of a c).number 0) (delivered_by p a c) 0)
    (account_after a c)

-- Without a bill, what the account held is in the closing's amounts or still there.
unbilled : {a b : Account} {n : ℕ} {y : ClosingAmounts} → Reached b
    → (a.next ≤ highest_next → b.next ≤ highest_next)
    → ((p : Period) → amount_of p a.carried ≡ amount_of p y.forfeited + amount_of p b.carried)
    → a.standing ≡ y.refunded + b.standing
    → Step a (record { number = n; bill = no_bill; amounts = y }) (λ p. 0) (λ p. 0) b
unbilled r h e f =
    record {
      reached = r;
      next = h;
      exported = λ p. omega (arith, none_at p, e p);
      delivered = λ p. omega (arith, none_at p);
      moved = refl;
      money = omega arith;
      charged = λ p q h d. (none_at q, none_at q);
    }

refused : {a : Account} {n : ℕ} → Reached a → Step a (record { number = n; bill = no_bill; amounts = no_amounts }) (λ p. 0) (λ p. 0) a
refused r = unbilled r (λ h. h) (λ p. omega (arith, none_at p)) (omega arith)

amount_le : (p : Period) (a : ByPeriod) → amount_of p a ≤ total_of a
amount_le Critical a = omega arith
amount_le OnPeak a = omega arith
amount_le OffPeak a = omega arith
amount_le Discount a = omega arith

-- A call is accepted or refused by its number.
decided : {A : Type 0} (n : ℕ) → (eqb n 0 ≡ true → A) → (eqb n 0 ≡ false → A) → A
decided {A} n accepted declined = by (eqb n 0) refl
  where
    by : (b : Bool) → eqb n 0 ≡ b → A
    by true e = accepted e
    by false e = declined e

pub step : (a : Account) (c : Call) → Reached a → StepOf a c
unfolding answer_of account_after opening_reply repricing_reply billing_reply closing_reply bill_of
step a (opening t l m) r =
    decided (opening_number a t l m)
    (λ e.
    let k = opening_accepted a t l m (eqb-true _ _ e) in
    let empty = r.fresh k.stage in
    rw e
    (unbilled
    (record { fresh = λ f. refl; held = omega arith; contents = contents_accepted t l k.holds })
    (λ h. omega (arith, k.month))
    (λ p. omega (arith, amount_le p a.carried, none_at p))
    (omega arith)))
    (λ e. rw e (refused r))
step a (repricing l) r =
    decided (repricing_number a l)
    (λ e.
    let (k, holds) = repricing_accepted a l (eqb-true _ _ e) in
    rw e
    (unbilled
    (record { fresh = r.fresh; held = r.held; contents = rw k.stage (contents_accepted a.terms l holds) })
    (λ h. h)
    (λ p. omega (arith, none_at p))
    (omega arith)))
    (λ e. rw e (refused r))
step a (billing m delivered received x) r =
    decided (billing_number a m delivered received x)
    (λ e.
    let k = billing_accepted a m delivered received x (eqb-true _ _ e) in
    let d : ByPeriod = by_period (sum_of (schedule_of a) m x delivered) in
    let g : ByPeriod = by_period (sum_of (schedule_of a) m x received) in
    let power : ℕ = demand_power (schedule_of a) m x delivered in
    let s = bill_balanced a.terms a.prices a.carried a.standing m d g power in
    let most = bill_held a.terms a.prices a.carried a.standing m d g power k.account.holds.prices in
    rw e
    (record {
      reached =
          record {
            fresh = λ f. cc k.account.stage;
            held = omega (arith, r.held, most, total_within (schedule_of a) m x received k.received_readings);
            contents = r.contents;
          };
      next = λ h. omega (arith, k.next);
      exported = λ p. omega (arith, s.exported p, by_period_at p (sum_of (schedule_of a) m x received), none_at p);
      delivered = λ p. omega (arith, s.delivered p, by_period_at p (sum_of (schedule_of a) m x delivered));
      moved = s.moved;
      money = omega (arith, s.money);
      charged = s.charged;
    }))
    (λ e. rw e (refused r))
step a closing r =
    decided (closing_number a)
    (λ e.
    rw e
    (unbilled
    (record { fresh = λ f. refl; held = omega arith; contents = refl })
    (λ h. h)
    (λ p. omega (arith, none_at p))
    (omega arith)))
    (λ e. rw e (refused r))
