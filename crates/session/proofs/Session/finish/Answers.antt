-- `session::Session::finish` reads the bytes that are held, if there are any, and writes what the end prints: `Ending` has both cases.
use Rattle.std.proofs.Common.{arith, refl}
use Rattle.session.proofs.Ending.{finish_whole, empty, not_empty, finish_line, read_short, put_short}
use Rattle.session.proofs.Session.finish.Goals as goal

pub returns-then-is_empty : goal.returns-then-is_empty
returns-then-is_empty c = finish_whole c.args.self.now c.args.out.now c.finish.new.out c.finish.result
    (empty _ (rw c.as_slice-held.ensures at c.is_empty.ensures) c.if-is_empty.true) c.if-out-lt-LEAST_ROOM.false c.finish.ensures

pub slice_bounds-finish-count : goal.slice_bounds-finish-count
slice_bounds-finish-count c = let short = read_short _ _ _ _ _ _ c.if-out-lt-LEAST_ROOM.false c.read_line-line.ensures in
    omega (arith, c.if-out-lt-LEAST_ROOM.false)

pub slice_bounds-finish-start : goal.slice_bounds-finish-start
slice_bounds-finish-start c = let short = read_short _ _ _ _ _ _ c.if-out-lt-LEAST_ROOM.false c.read_line-line.ensures in
    omega (arith, c.if-out-lt-LEAST_ROOM.false)

pub overflow_add-written : goal.overflow_add-written
overflow_add-written c = let short = read_short _ _ _ _ _ _ c.if-out-lt-LEAST_ROOM.false c.read_line-line.ensures in
    omega (arith, put_short _ _ _ _ c.finish-2.ensures)

pub returns : goal.returns
returns c = finish_line c.args.self.now _ c.read_line-line.new.self c.mark-mark.result c.args.out.now c.read_line-line.new.out c.finish-2.new.out
    c.read_line-line.result c.finish-2.result (not_empty _ (rw c.as_slice-held.ensures at c.is_empty.ensures) c.if-is_empty.false)
    c.if-out-lt-LEAST_ROOM.false c.mark-mark.ensures
    (rw c.as_slice-held.ensures at c.read_line-line.ensures) c.finish-2.ensures refl c.back_to.ensures
