use Rattle.std.proofs.Common.{◌≡◌, ℕ, ◌-◌, ◌≤◌, ◌<◌, length, get_or}
use Rattle.std.specs.Iterator.Adapters.{rev_source}
use Rattle.std.specs.Slice.Iter.{iter_rest}
use Rattle.hours.specs.Schedules.{word_from}
use Rattle.hours.proofs.word_of.Given as goal

-- The word has the entries behind those that are left.
abbrev pub invariant-loop-entry : goal.invariant-loop-entry
invariant-loop-entry l =
    let left = iter_rest (rev_source l.entry-iterator) in
    (length left ≤ 32) × ((k : ℕ) → k < length left → get_or left k 0 ≡ get_or l.entries k 0) × (l.word ≡ word_from l.entries (length left) (32 - length left))
