use Rattle.std.proofs.Common.{length}
use Rattle.session.specs.Sessions.{so_far_of}
use Rattle.statement.specs.Ending.{number_of}
use Rattle.statement.proofs.Giving.{GivenSoFar}
use Rattle.statement.proofs.Run.give.Given as goal

abbrev pub invariant-loop-rest : goal.invariant-loop-rest
invariant-loop-rest l =
    GivenSoFar (so_far_of l.fn.self.session) (number_of l.fn.self.telling.verdict) l.input l.rest (so_far_of l.self.session) (number_of l.self.telling.verdict)

abbrev pub decreases-loop-rest : goal.decreases-loop-rest
decreases-loop-rest l = length l.rest
