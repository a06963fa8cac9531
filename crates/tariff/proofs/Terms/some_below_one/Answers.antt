-- `tariff::Terms::some_below_one` asks each nameplate as the definition does.
use mathlib.Core.Path.{◌≡◌, ◌∙◌}
use lib.Dec.{ltb}
use Rattle.std.proofs.Common.{rules, tests}
use Rattle.std.proofs.lemmas.Iterator.Search.{any_from_yields_List}
use Rattle.std.proofs.lemmas.Iterator.{YieldsList-from_slice}
use Rattle.std.specs.List.{list_any}
use Rattle.tariff.specs.Tariff.{nameplates_of, some_below_one}
use Rattle.tariff.proofs.Nameplates.{some_under_is}
use Rattle.tariff.proofs.Terms.some_below_one.Goals as goal

pub returns : goal.returns
unfolding some_below_one
returns c = let nameplates = nameplates_of c.args.self.now in
    let any : c.any.result ≡ list_any (λ x. ltb x 1) nameplates =
    any_from_yields_List (λ x. ltb x 1) _ _ _ c.any.ensures.ran (YieldsList-from_slice nameplates cc) (λ x b q k. search (rules, tests)) in
    any ∙ some_under_is 1 nameplates
