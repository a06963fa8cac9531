-- `hours::unpack` has each entry from its byte.
use native.Mathlib.Omega.{arith}
use Rattle.hours.proofs.Storing.{unpacked_all}
use Rattle.hours.proofs.unpack.Goals as goal

pub returns : goal.returns
returns c = unpacked_all _ _ c.loop-place-test.array_long (λ k h. c.loop-place.invariant k (omega arith))
