-- `table::put_table` fills in the template for a line.
use Prim.Native.Nat.{◌≤◌}
use native.Mathlib.Omega.{arith}
use Rattle.table.specs.Filling.{most_filled}
use Rattle.table.proofs.Texts.{table_most, table_few}
use Rattle.table.proofs.Showing.{table_shown}
use Rattle.table.proofs.put_table.Goals as goal

pub put-requires : goal.put-requires
put-requires c =
    let sheet = c.of-sheet.result in
    let most : most_filled c.table_template-table.result.text.now ≤ 2048 = rw c.table_template-table.ensures.text (table_most _) in
    (omega arith, omega (arith, c.table_template-table.ensures.first, table_few sheet.kind))

pub returns : goal.returns
returns c =
    let sheet = c.of-sheet.ensures in
    let template = c.table_template-table.ensures in
    table_shown c.args.line.now sheet.kind sheet.numbers sheet.width.is template.text template.first c.put.ensures
