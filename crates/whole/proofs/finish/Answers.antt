-- `whole::finish` adds what the session writes at the end: `Adding` has the law.
use Rattle.std.proofs.Common.{arith}
use Rattle.whole.proofs.Adding.{finished}
use Rattle.whole.proofs.finish.Goals as goal

pub returns : goal.returns
returns c = finished c.args.session.now (omega arith) c.add.ensures c.finish-written.ensures
