-- `session::Session::keep` keeps what there is room for.
use Rattle.std.proofs.Common.{arith, refl, length-take}
use Rattle.session.proofs.Session.keep.Goals as goal

pub returns : goal.returns
returns c = let held = c.args.self.now.held in
    record { room = omega (arith, length-take held.count held.bytes, held.fits); line = c.add.ensures; progress = refl }
