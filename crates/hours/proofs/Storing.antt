-- Lists that are read by place: the entries of packed words, and the words of a schedule.
use mathlib.Core.Path.{◌≡◌, refl, ◌∙◌}
use mathlib.Core.Bool.{Bool, true, false}
use mathlib.Core.List.{List, [], ◌∷◌}
use Prim.Native.Nat.{ℕ, zero, suc, ◌+◌, ◌-◌, ◌*◌, ◌/◌, ◌%◌, ◌≤◌, ◌<◌}
use native.Mathlib.Nat.{add-zero, zero-add, add-suc}
use native.Mathlib.Omega.{arith}
use borrow.Author.Tests.{ltb-true, ltb-false}
use lib.Dec.{ltb}
use lib.ListN.{length, get_or, get_or-append, length-append, set, take, drop}
use lib.Seq.{get_or-append_right}
use Rattle.std.specs.Simd.{first_chunks}
use Rattle.std.proofs.lemmas.Bool.{and_parts}
use Rattle.std.proofs.lemmas.Grind.{same_number_lists}
use Rattle.std.proofs.lemmas.List.{get_or-take, get_or-drop, get_or-set_same, get_or-set_other}
use Rattle.hours.specs.Packing.{byte_at, entry_of, unpacked}
use Rattle.hours.specs.Schedules.{schedule_length, is_entry, all_entries, word_from, words_from, packed}
use Rattle.hours.proofs.Chunks.{chunk_at}
use Rattle.hours.proofs.Packed.{word_of_words}

unpacked_length : (words : List ℕ) (n : ℕ) → length (unpacked words n) ≡ 4 * n
unfolding unpacked
unpacked_length words zero = refl
unpacked_length words (suc n) =
    let more : 4 * suc n ≡ 4 * n + 4 = omega arith in
    rw (length-append, unpacked_length words n, more)

last_four : (byte j : ℕ) → j < 4 → get_or (entry_of byte 0 ∷ entry_of byte 1 ∷ entry_of byte 2 ∷ entry_of byte 3 ∷ []) j 0 ≡ entry_of byte j
last_four byte zero h = refl
last_four byte (suc zero) h = refl
last_four byte (suc (suc zero)) h = refl
last_four byte (suc (suc (suc zero))) h = refl
last_four byte (suc (suc (suc (suc j)))) h = absurd (omega arith)

-- Entry k is that of its byte.
unpacked_at : (words : List ℕ) (n k : ℕ) → k < 4 * n → get_or (unpacked words n) k 0 ≡ entry_of (byte_at words (k / 4)) (k % 4)
unfolding unpacked
unpacked_at words zero k h = absurd (omega arith)
unpacked_at words (suc n) k h = by (λ early. unpacked_at words n k early) (ltb k (4 * n)) refl
  where
    by : (k < 4 * n → get_or (unpacked words n) k 0 ≡ entry_of (byte_at words (k / 4)) (k % 4))
        → (b : Bool) → ltb k (4 * n) ≡ b → get_or (unpacked words (suc n)) k 0 ≡ entry_of (byte_at words (k / 4)) (k % 4)
    by before true e =
        let early : k < 4 * n = ltb-true _ _ e in
        get_or-append (unpacked words n) _ 0 k (rw (unpacked_length words n) early) ∙ before early
    by before false e =
        let late : 4 * n ≤ k = ltb-false _ _ e in
        let byte : k / 4 ≡ n = omega arith in
        let place : k % 4 ≡ k - 4 * n = omega arith in
        get_or-append_right (unpacked words n) _ k 0 (rw (unpacked_length words n) late)
        ∙ rw (unpacked_length words n, byte, place) (last_four (byte_at words n) (k - 4 * n) (omega arith))

-- So entries that are those of their bytes are all that the words have, and words that are those of their entries are the schedule's.
pub unpacked_all : (words entries : List ℕ) → length entries ≡ 384 → ((k : ℕ) → k < 384 → get_or entries k 0 ≡ entry_of (byte_at words (k / 4)) (k % 4))
    → entries ≡ unpacked words 96
unpacked_all words entries long each =
    same_number_lists entries (unpacked words 96) (long ∙ rw (unpacked_length words 96)) (λ k h. rw (unpacked_at words 96 k (omega arith)) (each k (omega arith)))

-- With word w stored, those before place w + 1 are those of their entries.
pub word_stored : (s words : List ℕ) (w word : ℕ) → w < length words → ((k : ℕ) → k < w → get_or words k 0 ≡ word_from s (32 * k) 32)
    → word ≡ word_from s (32 * w) 32 → (k : ℕ) → k < w + 1 → get_or (set words w word) k 0 ≡ word_from s (32 * k) 32
word_stored s words w word h before e k l = by (ltb k w) refl
  where
    by : (b : Bool) → ltb k w ≡ b → get_or (set words w word) k 0 ≡ word_from s (32 * k) 32
    by true f =
        let early : k < w = ltb-true _ _ f in
        get_or-set_other words w k word 0 (omega arith) ∙ before k early
    by false f =
        let same : k ≡ w = omega (arith, ltb-false _ _ f) in
        rw same (get_or-set_same words w word 0 h ∙ e)

packed_length_is : (s : List ℕ) → length (packed s) ≡ 12
unfolding packed words_from
packed_length_is s = refl

packed_at : (s : List ℕ) (k : ℕ) → k < 12 → get_or (packed s) k 0 ≡ word_from s (32 * k) 32
unfolding packed
packed_at s k h = rw (word_of_words s 0 12 k h, zero-add)

pub packed_all : (s words : List ℕ) → length words ≡ 12 → ((k : ℕ) → k < 12 → get_or words k 0 ≡ word_from s (32 * k) 32) → words ≡ packed s
packed_all s words long each =
    same_number_lists words (packed s) (rw (packed_length_is s) long) (λ k h. rw (packed_at s k (omega arith)) (each k (omega arith)))

-- What is left of a schedule whose entries are good, and its front.
drop_entries : (n : ℕ) (s : List ℕ) → all_entries s ≡ true → all_entries (drop n s) ≡ true
unfolding all_entries
drop_entries zero s good = good
drop_entries (suc n) [] good = good
drop_entries (suc n) (p ∷ s) good = drop_entries n s (and_parts (is_entry p) (all_entries s) good).1

take_entries : (n : ℕ) (s : List ℕ) → all_entries s ≡ true → all_entries (take n s) ≡ true
unfolding all_entries
take_entries zero s good = refl
take_entries (suc n) [] good = good
take_entries (suc n) (p ∷ s) good =
    let both = and_parts (is_entry p) (all_entries s) good in
    rw (both.0, take_entries n s both.1)

part_from : (s : List ℕ) (n i k : ℕ) → i + k ≤ 32 → word_from (take 32 (drop n s)) i k ≡ word_from s (n + i) k
unfolding word_from
part_from s n i zero h = refl
part_from s n i (suc k) h = rw (get_or-take 32 (drop n s) i 0 (omega arith), get_or-drop n s i 0, part_from s n (suc i) k (omega arith), add-suc n i)

-- The entries of word w are part w of the schedule.
module _ (s : List ℕ) (parts : List (List ℕ)) (long : length s ≡ schedule_length) (e : parts ≡ first_chunks 32 (length s / 32) s) (w : ℕ) (h : w < 12) where
  part_is : get_or parts w [] ≡ take 32 (drop (32 * w) s)
  part_is = rw e (chunk_at 32 (length s / 32) w s (omega arith))

  pub part_entries : all_entries s ≡ true → all_entries (get_or parts w []) ≡ true
  part_entries good = rw part_is (take_entries 32 (drop (32 * w) s) (drop_entries (32 * w) s good))

  pub part_word : word_from (get_or parts w []) 0 32 ≡ word_from s (32 * w) 32
  part_word = rw part_is (rw add-zero at (part_from s (32 * w) 0 32 (omega arith)))
