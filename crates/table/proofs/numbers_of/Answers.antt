-- `table::numbers_of` stores the values of a line's runs, one after the other: `Numbers` has the step.
use mathlib.Core.Path.{refl, sym, ◌∙◌}
use mathlib.Core.List.{[], ◌∷◌, map-id}
use native.Mathlib.Omega.{arith}
use lib.ListN.{length-append}
use Rattle.std.proofs.Common.{rules, tests}
use Rattle.std.proofs.lemmas.Iterator.{YieldsList-from_take, YieldsList-from_map}
use Rattle.std.proofs.lemmas.Iterator.Splits.{YieldsList-from_slice_split}
use Rattle.std.proofs.lemmas.Iterator.Consumers.{YieldsList-at, YieldsList-from_enumerate, YieldsList-from_filter, YieldsList-end}
use Rattle.table.specs.Numbers.{first_of}
use Rattle.table.specs.Filling.{value_of}
use Rattle.table.proofs.Numbers.{cuts, is_run, stored_next, stored_all}
use Rattle.table.proofs.numbers_of.Goals as goal

pub loop-place-init : goal.loop-place-init
unfolding first_of
loop-place-init c = record { place = cc; stored = refl }

pub loop-place-preserved : goal.loop-place-preserved
loop-place-preserved c =
    let inv = c.loop-place.invariant in
    let step = c.in-Some.ensures.steps in
    record {
      place = omega (arith, step.1, step.2, inv.place, length-append c.loop-place.yielded ((c.in-Some.place, c.in-Some.value) ∷ []));
      stored = stored_next c.loop-place.yielded c.in-Some.value (step.1 ∙ inv.place) inv.stored;
    }

pub returns : goal.returns
returns c =
    let all = YieldsList-end
    (YieldsList-at c.into_iter-place-iterator.ensures.into_iter_gives
    (YieldsList-from_enumerate
    (YieldsList-at c.enumerate-place-items.ensures.source
    (YieldsList-from_take 33
    (YieldsList-at c.take.ensures.source
    (YieldsList-from_map _ value_of
    (YieldsList-at c.map-values.ensures.source
    (YieldsList-from_filter _ is_run
    (YieldsList-at c.filter.ensures.source
    (YieldsList-from_slice_split _ cuts c.args.line.now c.split.ensures.rest c.split.ensures.done c.split.ensures.closure (λ x r q k. search (rules, tests))))
    c.filter.ensures.closure (λ x r q k. search (rules, tests))))
    c.map-values.ensures.closure (λ x r q k. search rules)))
    c.take.ensures.count))
    c.enumerate-place-items.ensures.count))
    c.loop-place.yielded _ c.loop-place.yielded_by _ _ c.in-None.is c.next.ensures.steps in
    stored_all c.args.line.now c.loop-place.invariant.stored (sym (map-id c.loop-place.yielded) ∙ all.0)
