-- `whole::statement_of` feeds a session until it has taken all or is stopped: `Going` has the steps.
use Rattle.std.proofs.Common.{rules, arith, sym, ◌∙◌, length-drop}
use Rattle.session.specs.Sessions.{so_far_of}
use Rattle.std.proofs.lemmas.List.{take_rest}
use Rattle.whole.proofs.Going.{going_start, going_more, going_stopped, going_all, whole_long}
use Rattle.whole.proofs.statement_of.Goals as goal

pub loop-rest-init : goal.loop-rest-init
loop-rest-init c = going_start _ _ _ c.start-session.ensures

pub loop-rest-smaller : goal.loop-rest-smaller
loop-rest-smaller c = let rest = c.loop-rest.rest.now in
    let fed = c.feed_some-fed in
    let taken = fed.ensures.some (search rules) in
    rw (take_rest rest fed.result.taken) (omega (arith, length-drop fed.result.taken rest))

pub loop-rest-preserved : goal.loop-rest-preserved
loop-rest-preserved c = let fed = c.feed_some-fed in
    rw (take_rest c.loop-rest.rest.now fed.result.taken) (going_more (omega (arith, c.well_formed)) c.loop-rest.invariant fed.ensures)

pub returns-then-is_stopped : goal.returns-then-is_stopped
returns-then-is_stopped c = let g = going_more {later = so_far_of c.feed_some-fed.new.session} (omega (arith, c.well_formed)) c.loop-rest.invariant c.feed_some-fed.ensures in
    let all = going_stopped g (sym c.is_stopped.ensures ∙ c.if-is_stopped.true) (omega (arith, c.feed_some-fed.ensures.adds.end)) in
    record { written = all.bytes; long = whole_long all }

pub returns : goal.returns
returns c = let all = going_all c.loop-rest.invariant (search rules) c.finish.ensures in
    record { written = all.bytes; long = whole_long all }
