-- Document 01, "Calendar and hours", last paragraph, and refusal 9 of the table: the number that names the critical days.
-- x is that number, 32 bits wide; d is a day, and 1 the first. Day 0 is none.
use Rattle.std.specs.Prelude.{Bool, false, cond, ◌&&◌, ◌||◌, ℕ, zero, suc, ◌+◌, ◌-◌, ◌/◌, ◌%◌, ◌^◌, eqb, leb, ltb}
use Rattle.calendar.specs.Calendar.{days_in}

-- "bit d − 1 set means day d, bit 0 being the lowest"
unfoldable pub is_critical : ℕ → ℕ → Bool
is_critical x d = leb 1 d && eqb (x / 2 ^ (d - 1) % 2) 1

-- How many of the first n days are critical.
unfoldable pub critical_count : ℕ → ℕ → ℕ
critical_count x zero = 0
critical_count x (suc n) = critical_count x n + cond (is_critical x (suc n)) 1 0

-- Whether one of the n days after day a is critical.
unfoldable pub critical_after : ℕ → ℕ → ℕ → Bool
critical_after x a zero = false
critical_after x a (suc n) = critical_after x a n || is_critical x (a + suc n)

-- Refusal 9, its first half: "a bit past the month's last day". The number has 32 bits.
unfoldable pub past_last_day : ℕ → ℕ → Bool
past_last_day m x = critical_after x (days_in m) (32 - days_in m)

-- "The number of days set is at most 10."
abbrev pub most_critical_days : ℕ
most_critical_days = 10

-- Refusal 9: "a bit past the month's last day, or more than 10" of the 32 days that can be set.
unfoldable pub critical_refused : ℕ → ℕ → Bool
critical_refused m x = past_last_day m x || ltb most_critical_days (critical_count x 32)
