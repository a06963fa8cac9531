-- `printing::put_open` fills in the line's template.
use Rattle.printing.specs.Printing.{open_text}
use Rattle.printing.proofs.Laws.{open_most}
use Rattle.printing.proofs.put_open.Goals as goal

pub put_text-requires : goal.put_text-requires
put_text-requires c = open_most

pub returns : goal.returns
unfolding open_text
returns c = rw c.from.ensures at c.put_text.ensures
