-- `table::Sheet::put`: what is left of the template is still to be filled in, and has room.
use native.Mathlib.Omega.{arith}
use Rattle.printing.proofs.Writing.{rest_room, put_short, put_long}
use Rattle.table.proofs.Filling.{ends, room_mark, room_what, room_then, then_mark, then_what, then_then, then_byte, marked_length}
use Rattle.table.proofs.Texts.{wrong_short, to_do_short}
use Rattle.table.proofs.Sheet.put.Goals as goal
use Rattle.table.proofs.Sheet.put.Goals.{in-35, in-126, in-33, in_default}

pub put_mark-count-requires : goal.put_mark-count-requires
put_mark-count-requires c = let loop = c.loop-byte in
    rest_room 28 loop.out loop.end (omega (arith, room_mark loop.invariant c.loop-byte-test.true c.in-35.is))

pub overflow_add-end : goal.overflow_add-end
overflow_add-end c =
    let inv = c.loop-byte.invariant in
    let inside = c.loop-byte-test.true in
    let sheet = c.args.self.now in
    let size = c.well_formed in
    elim c.match-byte.branch [
      | in-35 w ↦
          rw w.end-is
          (omega (arith, room_mark inv inside w.in-35.is, w.put_mark-count.ensures.end, marked_length sheet.numbers sheet.width c.loop-byte.mark sheet.most))
      | in-126 w ↦ rw w.end-is (omega (arith, room_what inv inside w.in-126.is, w.put_bytes.ensures.end))
      | in-33 w ↦ rw w.end-is (omega (arith, room_then inv inside w.in-33.is, w.put_bytes-in-33.ensures.end))
      | in_default w ↦ rw w.end-is (omega (arith, w.put_bytes-in_default.ensures.end))
    ]

pub loop-byte-preserved : goal.loop-byte-preserved
loop-byte-preserved c =
    let inv = c.loop-byte.invariant in
    let inside = c.loop-byte-test.true in
    elim c.match-byte.branch [
      | in-35 w ↦
          rw (w.out-is, w.mark-is, w.end-is) (then_mark inv inside w.in-35.is (marked_length _ _ _ c.args.self.now.most) w.put_mark-count.ensures)
      | in-126 w ↦ rw (w.out-is, w.mark-is, w.end-is) (then_what inv inside w.in-126.is (wrong_short _) (rw w.wrong.ensures at w.put_bytes.ensures))
      | in-33 w ↦ rw (w.out-is, w.mark-is, w.end-is) (then_then inv inside w.in-33.is (to_do_short _) (rw w.to_do.ensures at w.put_bytes-in-33.ensures))
      | in_default w ↦
          rw (w.out-is, w.mark-is, w.end-is)
          (then_byte inv inside (λ e. omega arith) (λ e. omega arith) (λ e. omega arith) w.put_bytes-in_default.ensures)
    ]

pub returns-then-out-lt-TABLE_ROOM : goal.returns-then-out-lt-TABLE_ROOM
returns-then-out-lt-TABLE_ROOM c = put_short 2048 c.args.out.now c.if-out-lt-TABLE_ROOM.true

pub returns : goal.returns
returns c =
    put_long 2048 c.args.out.now c.if-out-lt-TABLE_ROOM.false
    (rw c.row_of-row.ensures at (ends c.loop-byte.invariant c.loop-byte-test.false))
