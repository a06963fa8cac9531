-- What the private functions of the one pass over a register promise each other. No public contract cites this file.
use Rattle.std.specs.Prelude.{◌≡◌, cond, ◌||◌, List, ℕ, ◌+◌, ◌-◌, ◌*◌, ◌/◌, ◌^◌, ◌≤◌, ◌<◌, max, eqb, ltb}
use Rattle.calendar.specs.Calendar.{quarter_by, readings_through}
use Rattle.calendar.specs.declared.Clock.{Clock}
use Rattle.hours.specs.declared.ByPeriod.{ByPeriod}
use Rattle.hours.specs.Hours.{critical, on_peak, off_peak, discount, is_peak}
use Rattle.registers.specs.declared.Count.{Count}
use Rattle.registers.specs.Registers.{lost_mark, last_known, day_sum, days_sum, day_largest, days_largest, reading_limit, some_above}

-- Each sum has room for an amount v more.
pub record HasRoom (v : ℕ) (a : ByPeriod) : Type 0 where
  pub critical : a.critical + v < 2 ^ 64
  pub onpeak : a.onpeak + v < 2 ^ 64
  pub offpeak : a.offpeak + v < 2 ^ 64
  pub discount : a.discount + v < 2 ^ 64

-- Each sum has room for so many readings more of 32 bits.
abbrev pub Room : ℕ → Count → Type 0
Room readings a = HasRoom (readings * 4294967295) a.sums

-- What a reading v counts as, where last is the last one before it that isn't lost.
unfoldable pub counts_after : ℕ → ℕ → ℕ
counts_after last v = cond (eqb v lost_mark) last v

-- The sums b are a with an amount v more in period p.
pub record AddedTo (a : ByPeriod) (p v : ℕ) (b : ByPeriod) : Type 0 where
  pub critical : b.critical ≡ a.critical + cond (eqb p critical) v 0
  pub onpeak : b.onpeak ≡ a.onpeak + cond (eqb p on_peak) v 0
  pub offpeak : b.offpeak ≡ a.offpeak + cond (eqb p off_peak) v 0
  pub discount : b.discount ≡ a.discount + cond (eqb p discount) v 0

-- The count b is a with one reading more, which counts as v, of period p. Its pair is not asked.
pub record Added (a : Count) (p v : ℕ) (b : Count) : Type 0 where
  pub sums : AddedTo a.sums p v b.sums
  pub largest : b.largest ≡ a.largest
  pub above : b.above ≡ (a.above || ltb reading_limit v)
  pub last : b.last ≡ v

-- The count b is a with one pair more, whose readings count as v and w, of periods p and q.
pub record AddedPair (a : Count) (p q v w : ℕ) (b : Count) : Type 0 where
  pub critical : b.sums.critical ≡ a.sums.critical + cond (eqb p critical) v 0 + cond (eqb q critical) w 0
  pub onpeak : b.sums.onpeak ≡ a.sums.onpeak + cond (eqb p on_peak) v 0 + cond (eqb q on_peak) w 0
  pub offpeak : b.sums.offpeak ≡ a.sums.offpeak + cond (eqb p off_peak) v 0 + cond (eqb q off_peak) w 0
  pub discount : b.sums.discount ≡ a.sums.discount + cond (eqb p discount) v 0 + cond (eqb q discount) w 0
  pub largest : b.largest ≡ max a.largest (cond (is_peak p || is_peak q) (v + w) 0)
  pub above : b.above ≡ ((a.above || ltb reading_limit v) || ltb reading_limit w)
  pub last : b.last ≡ w

-- The same where v and w stand in the places of the two readings, and may be lost.
abbrev pub FilledPair : Count → ℕ → ℕ → ℕ → ℕ → Count → Type 0
FilledPair a p q v w b = AddedPair a p q (counts_after a.last v) (counts_after (counts_after a.last v) w) b

-- The count a is that of the first n days.
pub record Counted (schedule : List ℕ) (m x : ℕ) (r : List ℕ) (n : ℕ) (a : Count) : Type 0 where
  pub critical : a.sums.critical ≡ days_sum schedule m x r critical n
  pub onpeak : a.sums.onpeak ≡ days_sum schedule m x r on_peak n
  pub offpeak : a.sums.offpeak ≡ days_sum schedule m x r off_peak n
  pub discount : a.sums.discount ≡ days_sum schedule m x r discount n
  pub largest : a.largest ≡ days_largest schedule m x r n
  pub above : a.above ≡ some_above r (readings_through m n)
  pub last : a.last ≡ last_known r (readings_through m n)

-- The count a is that of the first n days and of the first j readings of the next, and of the whole pairs among these.
pub record DayCounted (schedule : List ℕ) (m x : ℕ) (r : List ℕ) (n j : ℕ) (a : Count) : Type 0 where
  pub critical : a.sums.critical ≡ days_sum schedule m x r critical n + day_sum schedule m x r critical n j
  pub onpeak : a.sums.onpeak ≡ days_sum schedule m x r on_peak n + day_sum schedule m x r on_peak n j
  pub offpeak : a.sums.offpeak ≡ days_sum schedule m x r off_peak n + day_sum schedule m x r off_peak n j
  pub discount : a.sums.discount ≡ days_sum schedule m x r discount n + day_sum schedule m x r discount n j
  pub largest : a.largest ≡ max (days_largest schedule m x r n) (day_largest schedule m x r n (j / 2))
  pub above : a.above ≡ some_above r (readings_through m n + j)
  pub last : a.last ≡ last_known r (readings_through m n + j)

-- From reading i of a day up to reading j, the quarters follow each other.
pub record Follows (k : Clock) (i j : ℕ) : Type 0 where
  pub some : i < j
  pub each : (p : ℕ) → i ≤ p → p < j → quarter_by k p ≡ quarter_by k i + (p - i)
