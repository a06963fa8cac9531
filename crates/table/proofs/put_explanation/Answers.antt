-- `table::put_explanation` fills in the template for a line.
use Prim.Native.Nat.{◌≤◌}
use native.Mathlib.Omega.{arith}
use Rattle.table.specs.Filling.{most_filled}
use Rattle.table.proofs.Texts.{explanation_most}
use Rattle.table.proofs.Showing.{explanation_shown}
use Rattle.table.proofs.put_explanation.Goals as goal

pub put-requires : goal.put-requires
put-requires c =
    let sheet = c.of-sheet.result in
    let most : most_filled c.explanation_template-note.result.text.now ≤ 2048 = rw c.explanation_template-note.ensures.text (explanation_most _) in
    (omega arith, omega (arith, c.explanation_template-note.ensures.first))

pub returns : goal.returns
returns c =
    let sheet = c.of-sheet.ensures in
    let template = c.explanation_template-note.ensures in
    explanation_shown c.args.line.now sheet.kind sheet.numbers _ template.text template.first c.put.ensures
