-- `printing::put_line` fills in the line's template.
use Rattle.printing.specs.Printing.{line_text}
use Rattle.printing.proofs.Laws.{line_most}
use Rattle.printing.proofs.put_line.Goals as goal

pub put_text-requires : goal.put_text-requires
put_text-requires c = line_most

pub returns : goal.returns
unfolding line_text
returns c = c.put_text.ensures
