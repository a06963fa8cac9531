use Rattle.std.specs.Slice.Iter.{iter_rest}
use Rattle.printing.proofs.Filling.{Filling}
use Rattle.printing.proofs.put_text.Given as goal

abbrev pub invariant-loop-byte : goal.invariant-loop-byte
invariant-loop-byte l = Filling l.template (iter_rest l.initial.numbers) l.initial.out l.out l.end (iter_rest l.numbers) l.byte-index
