-- `tariff::some_over` asks each number as the definition does.
use mathlib.Core.Path.{◌≡◌, ◌∙◌}
use lib.Dec.{ltb}
use Rattle.std.proofs.Common.{rules, tests}
use Rattle.std.proofs.lemmas.Iterator.Search.{any_from_yields_List}
use Rattle.std.proofs.lemmas.Iterator.{YieldsList-from_slice}
use Rattle.std.specs.List.{list_any}
use Rattle.tariff.proofs.Nameplates.{some_over_is}
use Rattle.tariff.proofs.some_over.Goals as goal

pub returns : goal.returns
returns c = let numbers = c.args.numbers.now in
    let any : c.any.result ≡ list_any (λ x. ltb c.args.limit x) numbers =
    any_from_yields_List (λ x. ltb c.args.limit x) _ _ _ c.any.ensures.ran (YieldsList-from_slice numbers cc) (λ x b q k. search (rules, tests)) in
    any ∙ some_over_is c.args.limit numbers
