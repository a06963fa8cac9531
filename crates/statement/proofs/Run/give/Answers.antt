-- `statement::Run::give` gives a session all bytes, piece by piece: `Giving` has the steps.
use Rattle.std.proofs.Common.{◌<◌, rules, arith, length, length-drop}
use Rattle.session.specs.Sessions.{so_far_of}
use Rattle.std.proofs.lemmas.List.{take_rest}
use Rattle.statement.proofs.Giving.{given_some, given_more, given_all}
use Rattle.statement.proofs.Run.give.Goals as goal

pub loop-rest-smaller : goal.loop-rest-smaller
loop-rest-smaller c = let run = c.loop-rest.self in
    let rest = c.loop-rest.rest.now in
    let some : 0 < length rest = search rules in
    let taken = given_some (so_far_of run.session) rest run.out (omega arith) some c.feed-fed.ensures.takes in
    rw (take_rest rest c.feed-fed.result.taken) (omega (arith, length-drop c.feed-fed.result.taken rest))

pub loop-rest-preserved : goal.loop-rest-preserved
loop-rest-preserved c = let run = c.loop-rest.self in
    rw (take_rest c.loop-rest.rest.now c.feed-fed.result.taken)
    (given_more run.telling.verdict c.text.new.self.verdict c.loop-rest.invariant c.feed-fed.ensures c.in_ok-text.ensures)

pub returns : goal.returns
returns c = given_all c.args.self.now.telling.verdict c.loop-rest.self.telling.verdict c.loop-rest.invariant (search rules)
