-- `tariff::Terms::capacity_refused` makes the definition's three tests, on the total as far as it fits 64 bits.
use mathlib.Core.Path.{sym, ◌∙◌}
use Prim.Native.Nat.{◌≤◌}
use native.Mathlib.Omega.{arith}
use borrow.Author.Tests.{ltb-false}
use Rattle.tariff.specs.Tariff.{total_nameplate, capacity_limit, capacity_refused}
use Rattle.tariff.proofs.Laws.{capacity_limit-le}
use Rattle.tariff.proofs.Nameplates.{capped_decides}
use Rattle.tariff.proofs.Terms.capacity_refused.Goals.{then-some_below_one, else-some_below_one}
use Rattle.tariff.proofs.Terms.capacity_refused.Goals as goal

pub returns-else-self-nameplate : goal.returns-else-self-nameplate
unfolding capacity_refused
returns-else-self-nameplate c = let terms = c.args.self.now in
    elim c.if-some_below_one.branch [
      | then-some_below_one w ↦ cc
      | else-some_below_one w ↦
          let within : c.total_nameplate-nameplate.result ≤ terms.limit = ltb-false _ _ (sym w.value-is ∙ c.if-self-nameplate.false) in
          rw (← c.some_below_one.ensures, w.if-some_below_one.false, c.capacity_limit.ensures)
          (capped_decides (total_nameplate terms) terms.limit (capacity_limit terms) _ c.total_nameplate-nameplate.ensures within
          (omega (arith, capacity_limit-le terms)))
    ]
