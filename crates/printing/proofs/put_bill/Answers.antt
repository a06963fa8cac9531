-- `printing::put_bill` fills in the line's template.
use Rattle.std.proofs.Common.{rules}
use Rattle.printing.proofs.Laws.{bill_most, bill_line_lem}
use Rattle.printing.proofs.put_bill.Goals as goal

pub put_text-requires : goal.put_text-requires
put_text-requires c = bill_most

pub returns : goal.returns
returns c = bill_line_lem c.args.month c.args.number c.args.bill (search rules) c.put_text.ensures
