-- `whole::feed_some` feeds a session a piece, and adds what it wrote: `Adding` has the law.
use Rattle.std.proofs.Common.{arith}
use Rattle.whole.proofs.Adding.{fed_some}
use Rattle.whole.proofs.feed_some.Goals as goal

pub returns : goal.returns
returns c = fed_some c.args.session.now (omega arith) c.add.ensures c.args.input.now c.min-piece.result c.min-piece.ensures c.feed-fed.ensures
