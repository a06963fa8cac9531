-- `registers::Roomy::add_pair` asks the sum of what stands in both places: within the limit, neither is lost.
use Rattle.registers.proofs.Counting.{pair_known}
use Rattle.registers.proofs.Roomy.add_pair.Goals as goal

pub returns-then-sum-from : goal.returns-then-sum-from
returns-then-sum-from c = rw (← c.if-entry-next_entry.true) (pair_known _ _ _ _ (rw (c.sum.ensures, c.from.ensures) at c.if-sum-from.true) c.add_same_entry.ensures)
