use Rattle.session.specs.Sessions.{so_far_of}
use Rattle.statement.specs.Ending.{number_of}
use Rattle.statement.proofs.Reaching.{Reached}
use Rattle.statement.proofs.print.Given as goal

abbrev pub invariant-loop : goal.invariant-loop
invariant-loop l = Reached (so_far_of l.run.session) (number_of l.run.telling.verdict)
