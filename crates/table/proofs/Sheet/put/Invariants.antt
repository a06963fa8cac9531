use Rattle.table.specs.Filling.{marked_by, row_number, to_do_at}
use Rattle.table.specs.Reasons.{wrong_at}
use Rattle.table.proofs.Filling.{Filling}
use Rattle.table.proofs.Sheet.put.Given as goal

abbrev pub invariant-loop-byte : goal.invariant-loop-byte
invariant-loop-byte l = Filling (marked_by l.self.numbers l.self.width) (wrong_at (row_number l.row)) (to_do_at (row_number l.row)) l.template.text.now l.template.first_mark l.initial.out l.out l.end l.mark l.byte-index
