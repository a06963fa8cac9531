-- `table::Sheet::put_mark`: a number in decimal, or in a column.
use mathlib.Core.Path.{sym}
use native.Mathlib.Omega.{arith}
use borrow.Author.Tests.{lt-ltb, le-ltb}
use Rattle.std.proofs.lemmas.List.{length-take-le}
use Rattle.printing.proofs.Writing.{put_there}
use Rattle.table.specs.Filling.{marked_by}
use Rattle.table.proofs.Writing.{column_wrote}
use Rattle.table.proofs.Filling.{shows_fit}
use Rattle.table.proofs.Sheet.put_mark.Goals as goal

pub returns-then-mark-lt7 : goal.returns-then-mark-lt7
unfolding marked_by
returns-then-mark-lt7 c = simp (lt-ltb _ _ c.if-mark-lt7.true, ← c.plain_value.ensures) (put_there (omega arith) c.put_number.ensures)

pub slice_bounds-put_column-end : goal.slice_bounds-put_column-end
slice_bounds-put_column-end c = omega (arith, shows_fit _ _ _ c.shown-shown.ensures c.args.self.now.most)

pub slice_bounds-put_column-end-2 : goal.slice_bounds-put_column-end-2
slice_bounds-put_column-end-2 c =
    sym (length-take-le c.shown-shown.result.width c.args.out.now (omega (arith, shows_fit _ _ _ c.shown-shown.ensures c.args.self.now.most)))

pub put_column-requires : goal.put_column-requires
put_column-requires c =
    let fits = shows_fit _ _ _ c.shown-shown.ensures c.args.self.now.most in
    let front = length-take-le c.shown-shown.result.width c.args.out.now (omega (arith, fits)) in
    omega (arith, fits, front)

pub returns : goal.returns
unfolding marked_by
returns c =
    let fits = shows_fit _ _ _ c.shown-shown.ensures c.args.self.now.most in
    simp (le-ltb _ _ c.if-mark-lt7.false, ← c.shown-shown.ensures) (column_wrote _ _ _ (omega (arith, fits)) c.put_column.ensures)
