-- `table::width_of` asks each number whether it is too wide.
use mathlib.Core.Path.{◌≡◌, refl, ◌∙◌, sym}
use mathlib.Core.Bool.{true, false}
use Rattle.std.proofs.Common.{rules, tests}
use Rattle.std.proofs.lemmas.Iterator.Search.{any_from_yields_List}
use Rattle.std.proofs.lemmas.Iterator.{YieldsList-from_range}
use Rattle.std.specs.List.{list_any, range_with_len}
use Rattle.table.proofs.Cells.{is_wide, width_by}
use Rattle.table.proofs.width_of.Goals as goal

pub returns-then-any : goal.returns-then-any
returns-then-any c = let wide = is_wide c.args.numbers.now in
    let any : c.any.result ≡ list_any wide (range_with_len 0 37) =
    any_from_yields_List wide _ _ _ c.any.ensures.ran (YieldsList-from_range 0 37 37 refl refl) (λ x b q k. search (rules, tests)) in
    width_by true (sym c.if-any.true ∙ any)

pub returns-else-any : goal.returns-else-any
returns-else-any c = let wide = is_wide c.args.numbers.now in
    let any : c.any.result ≡ list_any wide (range_with_len 0 37) =
    any_from_yields_List wide _ _ _ c.any.ensures.ran (YieldsList-from_range 0 37 37 refl refl) (λ x b q k. search (rules, tests)) in
    width_by false (sym c.if-any.false ∙ any)
