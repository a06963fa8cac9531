-- `statement::Run::finish` tells what the session writes at the end: `Giving` has the law.
use Rattle.std.proofs.Common.{arith}
use Rattle.statement.proofs.Giving.{ending_written}
use Rattle.statement.proofs.Run.finish.Goals as goal

pub returns : goal.returns
returns c = rw (ending_written (omega arith) c.finish-written.ensures) at c.text.ensures
