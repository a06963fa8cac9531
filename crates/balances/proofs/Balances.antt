-- Demand 3: the balances of one call add up over a list, and a fresh account carries nothing and has nothing standing.
use mathlib.Core.Path.{◌≡◌, refl}
use mathlib.Core.List.{List, [], ◌∷◌}
use Prim.Native.Nat.{◌+◌}
use native.Mathlib.Omega.{arith}
use Rattle.account.specs.declared.Account.{Account}
use Rattle.account.specs.Account.{fresh_account}
use Rattle.balances.specs.Calls.{Call, account_after, answers_of, last_of}
use Rattle.balances.specs.Balances.{Period, amount_of, total_by, bill_total, all_periods, forfeited_total, delivered_by, exported_by, register_total}
use Rattle.balances.specs.Balances.{Each, ChargedLast, StartsFresh, Balanced}
use Rattle.balances.proofs.Bills.{none_at}
use Rattle.balances.proofs.Steps.{Reached, fresh_reached, StepOf, step}

-- The balances of a list from account a.
record BalancedFrom (a : Account) (cs : List Call) : Type 0 where
  exported : (p : Period) →
      register_total (exported_by p) a cs + amount_of p a.carried
      ≡ bill_total p (λ b. b.own) (answers_of a cs) + bill_total p (λ b. b.out) (answers_of a cs)
      + bill_total p (λ b. b.paid) (answers_of a cs) + forfeited_total p (answers_of a cs) + amount_of p (last_of a cs).carried
  delivered : (p : Period) →
      register_total (delivered_by p) a cs
      ≡ bill_total p (λ b. b.own) (answers_of a cs) + bill_total p (λ b. b.into) (answers_of a cs)
      + bill_total p (λ b. b.billed) (answers_of a cs)
  moved : all_periods (λ b. b.out) (answers_of a cs) ≡ all_periods (λ b. b.into) (answers_of a cs)
  money :
      total_by (λ x. x.bill.charges.granted) (answers_of a cs) + a.standing
      ≡ total_by (λ x. x.bill.charges.used) (answers_of a cs) + total_by (λ x. x.amounts.refunded) (answers_of a cs)
      + (last_of a cs).standing
  charged : Each ChargedLast (answers_of a cs)

balanced_from : (a : Account) (cs : List Call) → Reached a → BalancedFrom a cs
unfolding total_by register_total Each answers_of last_of
balanced_from a [] r =
    record {
      exported = λ p. omega arith;
      delivered = λ p. refl;
      moved = refl;
      money = omega arith;
      charged = tt;
    }
balanced_from a (c ∷ cs) r =
    let s : StepOf a c = step a c r in
    let t : BalancedFrom (account_after a c) cs = balanced_from (account_after a c) cs s.reached in
    record {
      exported = λ p. omega (arith, s.exported p, t.exported p);
      delivered = λ p. omega (arith, s.delivered p, t.delivered p);
      moved = omega (arith, s.moved, t.moved);
      money = omega (arith, s.money, t.money);
      charged = (s.charged, t.charged);
    }

pub balanced : (a : Account) → StartsFresh a → (cs : List Call) → Balanced a cs
balanced a f cs =
    let t : BalancedFrom a cs = balanced_from a cs (fresh_reached a f) in
    record {
      exported = λ p. let z : amount_of p a.carried ≡ 0 = rw f.carried (none_at p) in omega (arith, t.exported p);
      delivered = t.delivered;
      moved = t.moved;
      money = omega (arith, t.money, f.standing);
      charged = t.charged;
    }

-- The account that is 0 in everything is a case.
pub starts_fresh : StartsFresh fresh_account
starts_fresh = record { stage = refl; carried = refl; standing = refl }
