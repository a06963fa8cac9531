-- `printing::put_text`: what is left of the template is still to be filled in, and has room.
use mathlib.Core.Path.{ap}
use mathlib.Core.Bool.{not}
use native.Mathlib.Omega.{arith}
use Rattle.std.specs.Slice.Iter.{iter_rest}
use Rattle.printing.proofs.Writing.{digits_length, put_none, put_wrote, put_there, room_for, rest_room}
use Rattle.printing.proofs.Filling.{starts, ends, room_byte, room_mark, then_byte, then_none, then_number}
use Rattle.printing.proofs.put_text.Goals as goal
use Rattle.printing.proofs.put_text.Goals.{then-byte-ne35, else-byte-ne35+in-Some, else-byte-ne35+in_default}

pub returns-then-not-has_room : goal.returns-then-not-has_room
returns-then-not-has_room c = put_none c.has_room.ensures (ap not c.if-not-has_room.true)

pub loop-byte-init : goal.loop-byte-init
loop-byte-init c = starts _ _ _ (omega (arith, room_for _ _ _ c.has_room.ensures (ap not c.if-not-has_room.false), c.requires))

pub bounds-out-end : goal.bounds-out-end
bounds-out-end c = omega (arith, room_byte c.loop-byte.invariant c.loop-byte-test.true c.if-byte-ne35.true)

pub overflow_add-end-in-Some : goal.overflow_add-end-in-Some
overflow_add-end-in-Some c = let inv = c.loop-byte.invariant in
    let loop = c.loop-byte in
    let room = room_mark inv c.loop-byte-test.true c.if-byte-ne35.false in
    let put = put_there (omega (arith, rest_room 20 loop.out loop.end (omega arith))) c.put_number-end.ensures in
    let most = digits_length 20 c.in-Some.number.now in
    omega (arith, put.end, c.well_formed.0.0, inv.kept)

pub loop-byte-preserved : goal.loop-byte-preserved
loop-byte-preserved c = let inv = c.loop-byte.invariant in
    let loop = c.loop-byte in
    let inside = c.loop-byte-test.true in
    elim c.if-byte-ne35.branch [
      | then-byte-ne35 w ↦ rw (w.out-is, w.numbers-is, w.end-is) (then_byte inv inside w.if-byte-ne35.true)
      | else-byte-ne35+in-Some w ↦
          let room = room_mark inv inside w.if-byte-ne35.false in
          rw (w.out-is, w.numbers-is, w.end-is)
          (then_number inv inside w.if-byte-ne35.false w.in-Some.ensures.steps
          (put_there (omega (arith, rest_room 20 loop.out loop.end (omega arith))) w.put_number-end.ensures))
      | else-byte-ne35+in_default w ↦ rw (w.out-is, w.numbers-is, w.end-is)
          (then_none inv inside w.if-byte-ne35.false w.in_default.ensures.steps.0 (ap iter_rest w.in_default.ensures.steps.1))
    ]

pub returns : goal.returns
returns c = put_wrote c.has_room.ensures (ap not c.if-not-has_room.false)
    (rw c.iter-numbers.ensures.rest at (ends c.loop-byte.invariant c.loop-byte-test.false))
