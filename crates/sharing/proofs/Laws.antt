-- What callers know of step 4, for every credit and need. They cite these laws and never open the definition.
use mathlib.Core.Path.{◌≡◌}
use Prim.Native.Nat.{ℕ, ◌+◌, ◌<◌}
use native.Mathlib.Omega.{arith}
use Rattle.hours.specs.declared.ByPeriod.{ByPeriod}
use Rattle.sharing.specs.declared.Shared.{Shared}
use Rattle.sharing.specs.Sharing.{shared_of}
use Rattle.sharing.proofs.Moves.{Sums, used, made_spent, made_met, by_moves}

-- The sum over the periods.
abbrev pub total : ByPeriod → ℕ
total a = a.critical + a.onpeak + a.offpeak + a.discount

-- Where a period is charged for, no dearer period has credit unspent.
pub record DearSpent (s : Shared) : Type 0 where
  pub onpeak_critical : 0 < s.billed.onpeak → s.unspent.critical ≡ 0
  pub offpeak_critical : 0 < s.billed.offpeak → s.unspent.critical ≡ 0
  pub offpeak_onpeak : 0 < s.billed.offpeak → s.unspent.onpeak ≡ 0
  pub discount_critical : 0 < s.billed.discount → s.unspent.critical ≡ 0
  pub discount_onpeak : 0 < s.billed.discount → s.unspent.onpeak ≡ 0
  pub discount_offpeak : 0 < s.billed.discount → s.unspent.offpeak ≡ 0

module _ (credit need : ByPeriod) where
  -- All credit is moved out or unspent.
  pub spent : Sums (shared_of credit need).out (shared_of credit need).unspent credit
  spent = by_moves (λ s. Sums s.out s.unspent credit) credit need (λ r h. made_spent h)

  -- All need is moved in or billed.
  pub met : Sums (shared_of credit need).into (shared_of credit need).billed need
  met = by_moves (λ s. Sums s.into s.billed need) credit need (λ r h. made_met h)

  -- What is moved out is moved in.
  pub conserved : total (shared_of credit need).out ≡ total (shared_of credit need).into
  conserved = by_moves (λ s. total s.out ≡ total s.into) credit need (λ r h. omega arith)

  -- The rule on charged watt-hours.
  pub dear_spent : DearSpent (shared_of credit need)
  dear_spent =
      by_moves DearSpent credit need
      (λ r h.
      record {
        onpeak_critical = λ l. omega (arith, used h.m01 l);
        offpeak_critical = λ l. omega (arith, used h.m02 (omega arith));
        offpeak_onpeak = λ l. omega (arith, used h.m12 l);
        discount_critical = λ l. omega (arith, used h.m03 (omega arith));
        discount_onpeak = λ l. omega (arith, used h.m13 (omega arith));
        discount_offpeak = λ l. used h.m23 l;
      })
