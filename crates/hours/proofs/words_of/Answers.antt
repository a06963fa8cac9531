-- `hours::words_of` has each word from its part of the entries: `Storing` has the parts.
use mathlib.Core.Path.{◌∙◌}
use Prim.Native.Nat.{◌<◌}
use native.Mathlib.Omega.{arith}
use lib.ListN.{length-set}
use Rattle.hours.proofs.Storing.{part_entries, part_word, word_stored, packed_all}
use Rattle.hours.proofs.words_of.Goals as goal
use Rattle.hours.proofs.words_of.Goals.{In-loop-w}

-- There are twelve parts.
within : (c : In-loop-w) → c.loop-w.w < 12
within c = omega (arith, c.as_chunks.ensures.front_len, c.requires.length)

pub word_of-requires : goal.word_of-requires
word_of-requires c = part_entries c.args.schedule.now _ c.requires.length c.as_chunks.ensures.front c.loop-w.w (within c) c.requires.entries

pub loop-w-preserved : goal.loop-w-preserved
loop-w-preserved c =
    let at = (goal.at.loop-w-preserved c).In-loop-w in
    let word = c.word_of.ensures ∙ part_word c.args.schedule.now _ c.requires.length c.as_chunks.ensures.front c.loop-w.w (within at) in
    (simp length-set c.loop-w.invariant.0, word_stored c.args.schedule.now _ c.loop-w.w _ (omega (arith, within at, c.loop-w.invariant.0)) c.loop-w.invariant.1 word)

pub returns : goal.returns
returns c = packed_all _ _ c.loop-w.invariant.0 (λ k h. c.loop-w.invariant.1 k (omega (arith, c.as_chunks.ensures.front_len, c.requires.length)))
