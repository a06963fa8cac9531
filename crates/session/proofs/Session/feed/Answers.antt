-- `session::Session::feed` takes line after line: `Going` has the steps.
use Rattle.std.proofs.Common.{arith, ap, length, ◌≤◌, length-drop}
use mathlib.Core.Bool.{not}
use Rattle.session.proofs.Going.{none_fed, going_start, going_left, going_more, going_none, going_all, same_long, some_left, room_yes, part_yes, part_none, takes_part}
use Rattle.std.proofs.lemmas.List.{take_rest}
use Rattle.session.proofs.Ending.{empty}
use Rattle.session.proofs.Session.feed.Goals as goal
use Rattle.session.proofs.Session.feed.Goals.{else-loop-out-test, then-loop-out-test+then-not-has_room}

pub returns-then-out-lt-LEAST_ROOM : goal.returns-then-out-lt-LEAST_ROOM
returns-then-out-lt-LEAST_ROOM c = none_fed _ _ _ c.if-out-lt-LEAST_ROOM.true

pub loop-out-init : goal.loop-out-init
loop-out-init c = going_left (going_start _ _ _ c.if-out-lt-LEAST_ROOM.false)

pub slice_bounds-has_room-count : goal.slice_bounds-has_room-count
slice_bounds-has_room-count c = omega (arith, same_long c.loop-out.invariant, c.loop-out.invariant.fits)

pub slice_bounds-has_room-start : goal.slice_bounds-has_room-start
slice_bounds-has_room-start c = omega (arith, same_long c.loop-out.invariant, c.loop-out.invariant.fits)

pub slice_bounds-take_lines-count : goal.slice_bounds-take_lines-count
slice_bounds-take_lines-count c = omega (arith, same_long c.loop-out.invariant, c.loop-out.invariant.fits)

pub slice_bounds-take_lines-start : goal.slice_bounds-take_lines-start
slice_bounds-take_lines-start c = omega (arith, same_long c.loop-out.invariant, c.loop-out.invariant.fits)

pub shape_of-out : goal.shape_of-out
shape_of-out c = same_long c.loop-out.invariant

pub take_lines-fed-requires : goal.take_lines-fed-requires
take_lines-fed-requires c = room_yes _ _ _ c.has_room.ensures (ap not c.if-not-has_room.false)

pub loop-out-smaller : goal.loop-out-smaller
loop-out-smaller c = let rest = c.loop-out.rest.now in
    let fed = c.take_lines-fed in
    let taken = fed.ensures.some (some_left (length rest) c.is_empty.ensures c.loop-out-test.true) in
    rw (take_rest rest fed.result.taken) (omega (arith, length-drop fed.result.taken rest))

pub loop-out-preserved : goal.loop-out-preserved
loop-out-preserved c = let fed = c.take_lines-fed in
    let inside : c.loop-out.written ≤ length c.loop-out.out = omega (arith, same_long c.loop-out.invariant, c.loop-out.invariant.fits) in
    rw (take_rest c.loop-out.rest.now fed.result.taken)
    (going_left (going_more c.loop-out.invariant (part_yes _ _ _ inside c.has_room.ensures (ap not c.if-not-has_room.false))
    (takes_part c.loop-out.self fed.new.self inside fed.ensures)))

pub returns : goal.returns
returns c =
    let inside : c.loop-out.written ≤ length c.loop-out.out = omega (arith, same_long c.loop-out.invariant, c.loop-out.invariant.fits) in
    elim c.loop-out-test.branch [
      | else-loop-out-test w ↦ going_all c.loop-out.invariant (empty _ c.is_empty.ensures w.loop-out-test.false)
      | then-loop-out-test+then-not-has_room w ↦ going_none c.loop-out.invariant (part_none _ _ _ inside w.has_room.ensures (ap not w.if-not-has_room.true))
    ]
