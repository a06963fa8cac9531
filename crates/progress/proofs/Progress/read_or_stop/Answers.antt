-- `progress::Progress::read_or_stop` stops at a fault.
use Rattle.progress.proofs.Lines.{stops}
use Rattle.progress.proofs.Progress.read_or_stop.Goals as goal

pub returns-in-Some : goal.returns-in-Some
returns-in-Some c = rw c.in-Some.is at c.read_expected.ensures

pub returns-in-None : goal.returns-in-None
returns-in-None c = stops c.args.self.now _ _ _ _ (rw c.in-None.is at c.read_expected.ensures) c.stop.ensures
