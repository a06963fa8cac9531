use Rattle.std.proofs.Common.{length}
use Rattle.session.specs.Sessions.{so_far_of}
use Rattle.whole.proofs.Going.{Going}
use Rattle.whole.proofs.statement_of.Given as goal

abbrev pub invariant-loop-rest : goal.invariant-loop-rest
invariant-loop-rest l = Going l.input l.initial.text l.rest (so_far_of l.session) l.text l.place

abbrev pub decreases-loop-rest : goal.decreases-loop-rest
decreases-loop-rest l = length l.rest
