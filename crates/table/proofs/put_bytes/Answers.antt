-- `table::put_bytes` writes byte after byte behind those that are written: `Writing` has the step.
use Rattle.std.proofs.Common.{arith, refl, ◌∙◌, ap}
use Rattle.std.proofs.lemmas.List.Edits.{sets}
use Rattle.std.proofs.Math.Seq.{take_all}
use Rattle.table.proofs.Writing.{one_more}
use Rattle.table.proofs.put_bytes.Goals as goal

pub loop-place-init : goal.loop-place-init
loop-place-init c = refl

pub loop-place-preserved : goal.loop-place-preserved
loop-place-preserved c = rw c.loop-place.invariant at c.write_at.ensures ∙ one_more c.args.out.now c.args.bytes.now c.loop-place.place c.loop-place-test.true

pub returns : goal.returns
returns c = record {
  bytes = c.loop-place.invariant ∙ ap (sets c.args.out.now 0) (take_all c.loop-place.place c.args.bytes.now c.loop-place-test.false);
  end = omega arith;
}
