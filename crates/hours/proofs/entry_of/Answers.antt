-- `hours::entry_of` shifts the entry's two bits to the lowest place and masks the others.
use Prim.Native.Nat.{◌*◌, ◌/◌, ◌^◌}
use lib.Bits.{and_mask}
use Rattle.hours.specs.Packing.{entry_of}
use Rattle.hours.proofs.entry_of.Goals as goal

pub returns : goal.returns
unfolding entry_of
returns c = and_mask (c.args.byte / 2 ^ (2 * c.args.k)) 2
