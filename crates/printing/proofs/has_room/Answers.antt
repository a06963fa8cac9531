-- `printing::has_room` asks for the length.
use Rattle.printing.proofs.Writing.{fits_front}
use Rattle.printing.proofs.has_room.Goals as goal

pub returns : goal.returns
returns c = fits_front 1024 c.args.out.now
