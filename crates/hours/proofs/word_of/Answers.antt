-- `hours::word_of` puts each entry below those behind it.
use mathlib.Core.Path.{◌≡◌, refl, sym, ap, ◌∙◌}
use mathlib.Core.List.{List, [], ◌∷◌, ◌++◌}
use Prim.Native.Nat.{ℕ, ◌+◌, ◌-◌, ◌*◌, ◌^◌, ◌<◌, suc}
use native.Mathlib.Omega.{arith}
use lib.ListN.{length, get_or, get_or-append, length-append}
use Rattle.std.proofs.lemmas.List.{get_or_push}
use Rattle.std.specs.Iterator.Adapters.{rev_source}
use Rattle.std.specs.Slice.Iter.{iter_rest}
use Rattle.hours.specs.Schedules.{word_from}
use Rattle.hours.proofs.Packed.{word_fits, word_more}
use Rattle.hours.proofs.word_of.Goals as goal
use Rattle.hours.proofs.word_of.Goals.{After-from}

-- Entries whose last is v, and that are those of s.
module _ (s entries left : List ℕ) (v : ℕ) (e : entries ≡ left ++ v ∷ []) (same : (k : ℕ) → k < length entries → get_or entries k 0 ≡ get_or s k 0) where
  one_more : length entries ≡ suc (length left)
  one_more = ap length e ∙ length-append left (v ∷ []) ∙ omega arith

  others : (k : ℕ) → k < length left → get_or left k 0 ≡ get_or s k 0
  others k h = sym (get_or-append left (v ∷ []) 0 k h) ∙ rw (← e) (same k (omega (arith, one_more)))

  last : v ≡ get_or s (length left) 0
  last = sym (get_or_push left v 0 (length left) refl) ∙ rw (← e) (same (length left) (omega (arith, one_more)))

-- The entries that are left, and those with the one that is taken.
abbrev left : After-from → List ℕ
left c = iter_rest (rev_source c.next.new.self)

abbrev before : After-from → List ℕ
before c = iter_rest (rev_source c.loop-entry.entry-iterator)

long : (c : After-from) → length (before c) ≡ suc (length (left c))
long c = one_more c.args.entries.now (before c) (left c) _ c.in-Some.ensures.steps c.loop-entry.invariant.1

-- With one entry more.
more : (c : After-from) → c.from.result + 4 * c.loop-entry.word ≡ word_from c.args.entries.now (length (left c)) (32 - length (left c))
more c =
    let word = rw (long c) at c.loop-entry.invariant.2 in
    let entry = last c.args.entries.now (before c) (left c) _ c.in-Some.ensures.steps c.loop-entry.invariant.1 in
    word_more c.args.entries.now (length (left c)) _ _ (omega (arith, long c, c.loop-entry.invariant.0)) word (c.from.ensures ∙ entry)

fitting : (c : After-from) → c.from.result + 4 * c.loop-entry.word < 2 ^ 64
fitting c = rw (more c) (word_fits _ c.requires _ _ (omega arith))

pub loop-entry-init : goal.loop-entry-init
unfolding word_from
loop-entry-init c = rw (c.into_iter-entry-iterator.ensures.into_iter_gives, c.rev-entry-items.ensures.source, c.iter.ensures.rest, c.told-entries) (omega arith, λ k h. refl, refl)

pub overflow_mul-word : goal.overflow_mul-word
overflow_mul-word c = omega (arith, fitting c)

pub overflow_add-word : goal.overflow_add-word
overflow_add-word c = omega (arith, fitting c)

pub loop-entry-preserved : goal.loop-entry-preserved
loop-entry-preserved c =
    let each = others c.args.entries.now (before c) (left c) _ c.in-Some.ensures.steps c.loop-entry.invariant.1 in
    (omega (arith, long c, c.loop-entry.invariant.0), each, more c)

pub returns : goal.returns
returns c = rw c.in-None.ensures.steps.0 at c.loop-entry.invariant.2
