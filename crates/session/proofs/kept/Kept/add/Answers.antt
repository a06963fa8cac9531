-- `session::kept::Kept::add` copies as many bytes as there is room for behind those that are held: `Keeping` has the law.
use Rattle.std.proofs.Common.{arith}
use Rattle.session.proofs.Keeping.{kept_more}
use Rattle.session.proofs.kept.Kept.add.Goals as goal

pub returns : goal.returns
returns c = kept_more c.args.self.now.bytes c.copy_from_slice.new.self c.args.bytes.now c.args.self.now.count c.min-more.result
    c.args.self.now.fits (omega arith) c.min-more.ensures c.copy_from_slice.ensures.after
