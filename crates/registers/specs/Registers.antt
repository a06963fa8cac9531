-- Document 01, "Billing" and the table of refusals: what a bill reads from one register, which is step 2, the demand of step 6, and
-- refusals 8 and 10; 02 No. 4, lost readings and refusal 13; and 02 No. 6, the pairs of step 6. m is a month, x the number that names its
-- critical days, r the readings of a register, p a period.
use Rattle.std.specs.Prelude.{Bool, false, cond, not, ◌&&◌, ◌||◌, Option, Some, None, List, ℕ, zero, suc, ◌+◌, ◌*◌, ◌/◌, max, eqb, ltb, length, get_or}
use Rattle.calendar.specs.Calendar.{days_in, day_length, readings_through, month_length, most_readings}
use Rattle.hours.specs.Hours.{is_peak, period_of, by_period}
use Rattle.registers.specs.declared.Tally.{Tally}

-- Reading i of a register (0 is the first), as it stands there. Past the register's end it is 0.
unfoldable pub reading : List ℕ → ℕ → ℕ
reading r i = get_or r i 0

-- 02 No. 4: "The value 4,294,967,295 in a register marks a lost reading." "Nothing but a reading may be lost": only the definitions
-- below ask for it.
abbrev pub lost_mark : ℕ
lost_mark = 4294967295

-- Whether reading i is lost.
unfoldable pub is_lost : List ℕ → ℕ → Bool
is_lost r i = eqb (reading r i) lost_mark

-- Of the first i readings, the last that isn't lost. Our reading: 0 if there is none; such a register is refused by 13.
unfoldable pub last_known : List ℕ → ℕ → ℕ
last_known r zero = 0
last_known r (suc i) = cond (is_lost r i) (last_known r i) (reading r i)

-- What reading i counts as: itself or, where it is lost, "the last reading before it in that register which isn't lost". "Sums, the demand
-- reading" (since No. 6 both readings of a pair) "and the exported and delivered totals of the ledger are all taken from" this. r is one month's
-- register, so a gap is filled across days and never across months (our reading). The theorems `gap_filled` and `filled_alike` say the same of whole
-- gaps and registers.
unfoldable pub counts_as : List ℕ → ℕ → ℕ
counts_as r i = cond (is_lost r i) (last_known r i) (reading r i)

-- Sums and demand go day by day. n days come before the day that is meant, so that it is day n + 1; j is the number of its readings that have
-- been passed. schedule has the hours.
module _ (schedule : List ℕ) (m x : ℕ) (r : List ℕ) where
  -- Step 2, for one day: the sum of those of its first j readings that are in period p.
  unfoldable pub day_sum : ℕ → ℕ → ℕ → ℕ
  day_sum p n zero = 0
  day_sum p n (suc j) = day_sum p n j + cond (eqb (period_of schedule m x (suc n) j) p) (counts_as r (readings_through m n + j)) 0

  -- Step 2, for the first n days.
  unfoldable pub days_sum : ℕ → ℕ → ℕ
  days_sum p zero = 0
  days_sum p (suc n) = days_sum p n + day_sum p n (day_length m (suc n))

  -- Step 2, for the month: "the sums of the two registers over its quarters", here of one register and period p.
  unfoldable pub sum_of : ℕ → ℕ
  sum_of p = days_sum p (days_in m)

-- 02 No. 6: "Pair quarters 0 and 1, 2 and 3, and so on through the day's readings." Pair h of a day, a half-hour, is its readings 2 × h and
-- 2 × h + 1 by place, also where the clocks change: none crosses midnight, and the hour that comes twice has pairs of its own (our reading).
-- "A pair counts if either quarter is critical or on-peak."
unfoldable pub pair_counts : List ℕ → ℕ → ℕ → ℕ → ℕ → Bool
pair_counts schedule m x n h = is_peak (period_of schedule m x (suc n) (2 * h)) || is_peak (period_of schedule m x (suc n) (2 * h + 1))

-- The sum of a pair: both readings, whatever the period of either quarter (our reading).
unfoldable pub pair_sum : ℕ → List ℕ → ℕ → ℕ → ℕ
pair_sum m r n h = counts_as r (readings_through m n + 2 * h) + counts_as r (readings_through m n + (2 * h + 1))

module _ (schedule : List ℕ) (m x : ℕ) (r : List ℕ) where
  -- Step 6, for one day: the largest sum of those of its first h pairs that count, or 0.
  unfoldable pub day_largest : ℕ → ℕ → ℕ
  day_largest n zero = 0
  day_largest n (suc h) = max (day_largest n h) (cond (pair_counts schedule m x n h) (pair_sum m r n h) 0)

  -- Step 6, for the first n days. A day of 92, 96 or 100 readings has half as many pairs.
  unfoldable pub days_largest : ℕ → ℕ
  days_largest zero = 0
  days_largest (suc n) = max (days_largest n) (day_largest n (day_length m (suc n) / 2))

  -- Step 6, for the month: the power in W that the demand line prices, "twice the largest delivered sum of a pair that counts"; if none counts, it
  -- is 0, and so "the line is 0". The theorem `half_hours` says the same without the definitions of pairs: it is the least power that is at least twice
  -- the sum of each pair that counts.
  unfoldable pub demand_power : ℕ
  demand_power = 2 * days_largest (days_in m)

-- "each reading at most 1,000,000"
abbrev pub reading_limit : ℕ
reading_limit = 1000000

-- What a month's register comes to at most, in Wh (`sum_within` of the laws).
abbrev pub month_limit : ℕ
month_limit = most_readings * reading_limit

-- Whether one of the first i readings is above the limit. 02 No. 4: "Number 10 passes over the mark."
unfoldable pub some_above : List ℕ → ℕ → Bool
some_above r zero = false
some_above r (suc i) = some_above r i || (not (is_lost r i) && ltb reading_limit (reading r i))

-- Refusal 10, of one register: "a reading above 1,000,000".
unfoldable pub reading_refused : List ℕ → Bool
reading_refused r = some_above r (length r)

-- Refusal 13, of one register: 02 No. 4, "a register whose first reading is lost".
unfoldable pub first_lost : List ℕ → Bool
first_lost r = is_lost r 0

-- Refusal 8, of one register: "of the wrong length".
unfoldable pub length_refused : ℕ → List ℕ → Bool
length_refused m r = not (eqb (length r) (month_length m))

-- All that a bill reads from one register: refusals 10 and 13, the sums by period and, of the delivered one, the power of the demand line. Of a
-- register of the wrong length, refusal 8, nothing is read: row 8 comes before the others.
unfoldable pub tally_of : List ℕ → ℕ → ℕ → List ℕ → Option Tally
tally_of schedule m x r =
    cond (length_refused m r)
    None
    (Some (record {
      abovelimit = reading_refused r;
      firstlost = first_lost r;
      sums = by_period (sum_of schedule m x r);
      power = demand_power schedule m x r;
    }))
