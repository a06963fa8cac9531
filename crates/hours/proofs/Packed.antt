-- A schedule whose entries are 1 to 3, and the words that it is packed into: what is packed is found again.
use mathlib.Core.Path.{◌≡◌, refl, ◌∙◌}
use mathlib.Core.Bool.{true, false}
use mathlib.Core.List.{List, [], ◌∷◌, ◌++◌, append_assoc}
use Prim.Native.Nat.{ℕ, zero, suc, ◌+◌, ◌-◌, ◌*◌, ◌/◌, ◌%◌, ◌^◌, ◌≤◌, ◌<◌}
use native.Mathlib.Nat.{add-zero, add-suc, suc-add, pow-succ', pow-le-pow_right}
use native.Mathlib.Omega.{arith}
use borrow.Author.Tests.{leb-true, eqb-true, not-false}
use lib.Dec.{eqb, leb}
use lib.ListN.{length, get_or, take}
use lib.Pow.{shr-shr}
use lib.Seq.{take-suc, take_all}
use Rattle.std.specs.List.{list_all}
use Rattle.std.proofs.lemmas.Bool.{and_parts}
use Rattle.hours.specs.Hours.{fixed_schedule, windows, window_period, is_on_peak}
use Rattle.hours.specs.Packing.{byte_at, entry_of, unpacked}
use Rattle.hours.specs.Schedules.{schedule_length, is_entry, all_entries, schedule_refused, word_from, words_from, packed, schedule_in}

-- The entries are good where each is.
pub all_entries-is : (s : List ℕ) → list_all is_entry s ≡ all_entries s
unfolding all_entries
all_entries-is [] = refl
all_entries-is (p ∷ s) = rw (all_entries-is s)

-- An entry has two bits; past the end it is 0.
pub entry_within : (s : List ℕ) (i : ℕ) → all_entries s ≡ true → get_or s i 0 ≤ 3
unfolding all_entries
entry_within [] i e = omega arith
entry_within (p ∷ s) zero e =
    let (low, high) = and_parts (leb 1 p) (leb p 3) (and_parts (is_entry p) (all_entries s) e).0 in
    leb-true p 3 high
entry_within (p ∷ s) (suc i) e = entry_within s i (and_parts (is_entry p) (all_entries s) e).1

-- So n entries have 2 × n bits.
pub word_below : (s : List ℕ) (i n : ℕ) → all_entries s ≡ true → word_from s i n < 4 ^ n
unfolding word_from
word_below s i zero good = omega arith
word_below s i (suc n) good = rw (pow-succ' 4 n) (omega (arith, entry_within s i good, word_below s (suc i) n good))

pub word_fits : (s : List ℕ) → all_entries s ≡ true → (i n : ℕ) → n ≤ 32 → word_from s i n < 2 ^ 64
word_fits s good i n h = omega (arith, word_below s i n good, pow-le-pow_right {n = 4} (omega arith) {i = n} {j = 32} h)

-- Entry k of a word stands in its bits 2k and 2k + 1.
entry_of_word : (s : List ℕ) (i n k : ℕ) → all_entries s ≡ true → k < n → word_from s i n / 2 ^ (2 * k) % 4 ≡ get_or s (i + k) 0
unfolding word_from
entry_of_word s i zero k good h = absurd (omega arith)
entry_of_word s i (suc n) zero good h = rw add-zero (omega (arith, entry_within s i good))
entry_of_word s i (suc n) (suc k) good h =
    let two : 2 * suc k ≡ 2 + 2 * k = omega arith in
    let first = get_or s i 0 in
    let rest = word_from s (suc i) n in
    let higher : (first + 4 * rest) / 2 ^ 2 ≡ rest = omega (arith, entry_within s i good) in
    rw (two, ← (shr-shr (first + 4 * rest) 2 (2 * k)), higher, add-suc i k, ← (suc-add i k)) (entry_of_word s (suc i) n k good (omega arith))

-- Word w of those from place i on.
pub word_of_words : (s : List ℕ) (i n w : ℕ) → w < n → get_or (words_from s i n) w 0 ≡ word_from s (i + 32 * w) 32
unfolding words_from
word_of_words s i zero w h = absurd (omega arith)
word_of_words s i (suc n) zero h = let same : i + 32 * 0 ≡ i = omega arith in rw same
word_of_words s i (suc n) (suc w) h =
    let same : i + 32 * suc w ≡ i + 32 + 32 * w = omega arith in
    rw same (word_of_words s (i + 32) n w (omega arith))

-- The eight bits of a byte have what the word has there.
bits_of_byte : (y k : ℕ) → k < 4 → y % 256 / 2 ^ (2 * k) % 4 ≡ y / 2 ^ (2 * k) % 4
bits_of_byte y zero h = omega arith
bits_of_byte y (suc zero) h = omega arith
bits_of_byte y (suc (suc zero)) h = omega arith
bits_of_byte y (suc (suc (suc zero))) h = omega arith
bits_of_byte y (suc (suc (suc (suc k)))) h = absurd (omega arith)

-- Entry k of byte b is entry 4 × b + k of the schedule.
entry_back : (s : List ℕ) (b k : ℕ) → all_entries s ≡ true → b < 96 → k < 4 → entry_of (byte_at (packed s) b) k ≡ get_or s (4 * b + k) 0
unfolding entry_of byte_at packed
entry_back s b k good h j =
    let bits : 8 * (b % 8) + 2 * k ≡ 2 * (4 * (b % 8) + k) = omega arith in
    let place : 32 * (b / 8) + (4 * (b % 8) + k) ≡ 4 * b + k = omega arith in
    let word = word_from s (32 * (b / 8)) 32 in
    let start : 0 + 32 * (b / 8) ≡ 32 * (b / 8) = omega arith in
    rw (
      word_of_words s 0 12 (b / 8) (omega arith),
      start,
      bits_of_byte (word / 2 ^ (8 * (b % 8))) k j,
      shr-shr word (8 * (b % 8)) (2 * k),
      bits,
      ← place,
    )
    (entry_of_word s (32 * (b / 8)) 32 (4 * (b % 8) + k) good (omega arith))

-- Four entries more of the schedule.
four_more : (s : List ℕ) (n : ℕ) → n + 3 < length s
    → take n s ++ get_or s (n + 0) 0 ∷ get_or s (n + 1) 0 ∷ get_or s (n + 2) 0 ∷ get_or s (n + 3) 0 ∷ [] ≡ take (n + 4) s
four_more s n h =
    let zeroth : n + 0 ≡ n = omega arith in
    let first : n + 1 ≡ suc n = omega arith in
    let second : n + 2 ≡ suc (suc n) = omega arith in
    let third : n + 3 ≡ suc (suc (suc n)) = omega arith in
    let fourth : n + 4 ≡ suc (suc (suc (suc n))) = omega arith in
    rw (
      zeroth,
      first,
      second,
      third,
      fourth,
      take-suc s (suc (suc (suc n))) 0 (omega arith),
      take-suc s (suc (suc n)) 0 (omega arith),
      take-suc s (suc n) 0 (omega arith),
      take-suc s n 0 (omega arith),
    )
    (simp append_assoc)

bytes_back : (s : List ℕ) (n : ℕ) → all_entries s ≡ true → n ≤ 96 → length s ≡ schedule_length → unpacked (packed s) n ≡ take (4 * n) s
unfolding unpacked
bytes_back s zero good h l = refl
bytes_back s (suc n) good h l =
    let more : 4 * suc n ≡ 4 * n + 4 = omega arith in
    rw (
      bytes_back s n good (omega arith) l,
      entry_back s n 0 good (omega arith) (omega arith),
      entry_back s n 1 good (omega arith) (omega arith),
      entry_back s n 2 good (omega arith) (omega arith),
      entry_back s n 3 good (omega arith) (omega arith),
      more,
    )
    (four_more s (4 * n) (omega arith))

-- With the entry before them, the last entries of a word are one more.
pub word_more : (s : List ℕ) (n word entry : ℕ) → n < 32 → word ≡ word_from s (suc n) (32 - suc n) → entry ≡ get_or s n 0
    → entry + 4 * word ≡ word_from s n (32 - n)
unfolding word_from
word_more s n word entry h e f =
    let more : 32 - n ≡ suc (32 - suc n) = omega arith in
    rw (e, f, more)

-- A schedule that isn't refused.
pub accepted_schedule : (s : List ℕ) → schedule_refused s ≡ false → (length s ≡ schedule_length) × (all_entries s ≡ true)
unfolding schedule_refused
accepted_schedule s e =
    let (long, good) = and_parts (eqb (length s) schedule_length) (all_entries s) (not-false _ e) in
    (eqb-true _ _ long, good)

-- What is packed is found again.
pub packed_back : (s : List ℕ) → schedule_refused s ≡ false → schedule_in (packed s) ≡ s
unfolding schedule_in
packed_back s e =
    let (long, good) = accepted_schedule s e in
    bytes_back s 96 good (omega arith) long ∙ take_all 384 s (omega arith)

-- The built-in hours are never refused: antt computes the 384 entries and looks at each.
pub built_in_accepted : schedule_refused fixed_schedule ≡ false
unfolding schedule_refused all_entries fixed_schedule windows window_period is_on_peak
built_in_accepted = refl
