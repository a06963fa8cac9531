-- 02 No. 7: the schedules that an opening takes, and how an account holds one. s is a schedule, as its entries.
use Rattle.std.specs.Prelude.{Bool, true, cond, not, ◌&&◌, List, [], ◌∷◌, ℕ, zero, suc, ◌+◌, ◌*◌, eqb, leb, length, get_or, replicate}
use Rattle.hours.specs.Hours.{on_peak, discount, fixed_schedule}
use Rattle.hours.specs.Packing.{unpacked}

-- "384 entries of 1 to 3": on-peak, off-peak and discount, where `row_start` has the row of a season and day kind. Critical is no entry, since a day makes a quarter
-- critical.
abbrev pub schedule_length : ℕ
schedule_length = 384

abbrev pub is_entry : ℕ → Bool
is_entry p = leb on_peak p && leb p discount

unfoldable pub all_entries : List ℕ → Bool
all_entries [] = true
all_entries (p ∷ s) = is_entry p && all_entries s

-- Refusal 15, of an opening: its "schedule isn't 384 entries of 1 to 3".
unfoldable pub schedule_refused : List ℕ → Bool
schedule_refused s = not (eqb (length s) schedule_length && all_entries s)

-- "An opening takes the built-in hours", which are the fixed schedule of document 01, "or a loaded schedule"; our reading: any schedule that is lent to it.
pub data Hours : Type 0 where
  built_in : Hours
  lent_schedule : List ℕ → Hours

abbrev pub entries_of : Hours → List ℕ
entries_of built_in = fixed_schedule
entries_of (lent_schedule s) = s

-- "the account holds it"; our reading: packed, four entries to a byte as in 02 No. 2, and eight bytes to a word, in each of which the first stands lowest. So an entry
-- has two bits, and a word has 32 entries. The n entries from place i on as one number:
unfoldable pub word_from : List ℕ → ℕ → ℕ → ℕ
word_from s i zero = 0
word_from s i (suc n) = get_or s i 0 + 4 * word_from s (suc i) n

-- The n words from place i on.
unfoldable pub words_from : List ℕ → ℕ → ℕ → List ℕ
words_from s i zero = []
words_from s i (suc n) = word_from s i 32 ∷ words_from s (i + 32) n

-- Twelve words are 96 bytes.
abbrev pub packed_length : ℕ
packed_length = 12

unfoldable pub packed : List ℕ → List ℕ
packed s = words_from s 0 packed_length

-- The words of a schedule that isn't refused; of one that is, 0 in each.
unfoldable pub words_or_none : List ℕ → List ℕ
words_or_none s = cond (schedule_refused s) (replicate packed_length 0) (packed s)

-- The schedule of such words, read byte by byte (`Packing`). A schedule that isn't refused is found again: theorem `packed_back`.
unfoldable pub schedule_in : List ℕ → List ℕ
schedule_in words = unpacked words (8 * packed_length)
