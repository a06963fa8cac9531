-- `table::cell_of` adds up the four periods' amounts, which stand side by side.
use mathlib.Core.Path.{◌≡◌, ◌∙◌}
use Prim.Native.Nat.{◌+◌, ◌-◌, ◌*◌, ◌%◌}
use native.Mathlib.Omega.{arith}
use borrow.Author.Tests.{lt-ltb, le-ltb}
use lib.ListN.{take, drop}
use Rattle.std.proofs.Common.{rules}
use Rattle.std.specs.List.{fold}
use Rattle.table.specs.Filling.{cell_at}
use Rattle.table.proofs.Cells.{sum_on, four_summed}
use Rattle.table.proofs.cell_of.Goals as goal

pub returns-then-k-lt35 : goal.returns-then-k-lt35
unfolding cell_at
returns-then-k-lt35 c =
    let first = 3 + 4 * (c.args.k % 7) in
    let sum : c.fold.result ≡ fold sum_on 0 (take (first + 4 - first) (drop first c.args.numbers.now)) = search rules in
    rw (le-ltb _ _ c.if-k-lt28.false, lt-ltb _ _ c.if-k-lt35.true) (sum ∙ four_summed c.args.numbers.now first (omega arith))
