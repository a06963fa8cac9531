-- `statement::statement_print` ends as `print` says.
use Rattle.statement.proofs.Lines.{ends_known}
use Rattle.statement.proofs.statement_print.Goals as goal

pub returns-clause-ends : goal.returns-clause-ends
returns-clause-ends c = rw c.end_number-2.ensures c.print.ensures

pub returns-clause-known : goal.returns-clause-known
returns-clause-known c = ends_known (returns-clause-ends c)
