use Rattle.std.proofs.Common.{◌-◌, length}
use Rattle.session.proofs.Going.{Going}
use Rattle.session.proofs.Session.feed.Given as goal

abbrev pub invariant-loop-out : goal.invariant-loop-out
invariant-loop-out l = Going l.initial.self l.input l.initial.out (length l.input - length l.rest) l.rest l.self l.written l.out

abbrev pub decreases-loop-out : goal.decreases-loop-out
decreases-loop-out l = length l.rest
