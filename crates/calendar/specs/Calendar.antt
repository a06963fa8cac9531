-- Document 01, "Calendar and hours": months, their days, weekdays and seasons; and the readings that a register has of them, with 02 No. 1.
-- m is a month, d a day of it (1 is the first) and j a reading of that day (0 is the first). Each definition is total: past what 01 speaks of it
-- goes on by the same rule, and where a subtraction would go below 0 it gives 0, so that day 0 has the weekday of day 1.
use Rattle.std.specs.Prelude.{◌≡◌, Bool, cond, not, ◌&&◌, ◌||◌, List, [], ◌∷◌, ℕ, zero, suc, ◌+◌, ◌-◌, ◌*◌, ◌/◌, ◌%◌, ◌≤◌, ◌<◌, eqb, ltb, leb, get_or, Option, Some, None}
use Rattle.calendar.specs.declared.Season.{Season}
use Rattle.calendar.specs.declared.Season.TheVariants.{Winter, Summer}
use Rattle.calendar.specs.declared.DayKind.{DayKind}
use Rattle.calendar.specs.declared.DayKind.TheVariants.{Weekday, Weekend}
use Rattle.calendar.specs.declared.Change.{Change}
use Rattle.calendar.specs.declared.Clock.{Clock}
use Rattle.calendar.specs.declared.Clock.TheVariants.{Unchanged, Forward, Back}

-- "A month is numbered 12 × (year − 2000) + (month of the year − 1)": month k of year y.
abbrev pub month_number : ℕ → ℕ → ℕ
month_number y k = 12 * (y - 2000) + (k - 1)

-- "1199 is December 2099": the last month.
abbrev pub last_month : ℕ
last_month = month_number 2099 12

-- The year of month m.
abbrev pub year_of : ℕ → ℕ
year_of m = 2000 + m / 12

-- The month of the year of month m: 1 is January, 12 December. (`month_number_lem` of the laws: a month's year and month of the year number it.)
abbrev pub month_of_year : ℕ → ℕ
month_of_year m = m % 12 + 1

-- The Gregorian calendar: each fourth year is a leap year, but of the hundredth years only each four-hundredth.
unfoldable pub is_leap : ℕ → Bool
is_leap y = eqb (y % 4) 0 && (not (eqb (y % 100) 0) || eqb (y % 400) 0)

-- The days of January to December in a common year.
abbrev pub common_days : List ℕ
common_days = 31 ∷ 28 ∷ 31 ∷ 30 ∷ 31 ∷ 30 ∷ 31 ∷ 31 ∷ 30 ∷ 31 ∷ 30 ∷ 31 ∷ []

-- 1 in February of a leap year, else 0.
unfoldable pub leap_day : ℕ → ℕ
leap_day m = cond (eqb (month_of_year m) 2 && is_leap (year_of m)) 1 0

-- "The Gregorian calendar gives its days".
unfoldable pub days_in : ℕ → ℕ
days_in m = get_or common_days (month_of_year m - 1) 0 + leap_day m

-- The weekday of the first day of month m, 0 for Monday to 6 for Sunday. "1 January 2000 is a Saturday", and each month
-- begins on the day after the last one of the month before.
unfoldable pub first_weekday : ℕ → ℕ
first_weekday zero = 5
first_weekday (suc m) = (first_weekday m + days_in m) % 7

-- The weekday of day d of month m.
unfoldable pub weekday_of : ℕ → ℕ → ℕ
weekday_of m d = (first_weekday m + (d - 1)) % 7

-- "Monday to Friday".
unfoldable pub day_kind_of : ℕ → ℕ → DayKind
day_kind_of m d = cond (ltb (weekday_of m d) 5) Weekday Weekend

-- "Winter is October to June", "Summer is July to September".
unfoldable pub season_of : ℕ → Season
season_of m = cond (leb 7 (month_of_year m) && leb (month_of_year m) 9) Summer Winter

-- Whether day d is the k-th Sunday of month m: the first is one of days 1 to 7, the second one of days 8 to 14, and so on.
unfoldable pub is_sunday : ℕ → ℕ → ℕ → Bool
is_sunday k m d = ltb (7 * (k - 1)) d && (leb d (7 * k) && eqb (weekday_of m d) 6)

-- What the clocks do on day d of month m. 02 No. 1: "From 2007 on, the second Sunday of March lacks the hour from 02:00 to 03:00. The
-- first Sunday of November has the hour from 01:00 to 02:00 twice." "Book years before 2007 keep 96."
unfoldable pub clock_of : ℕ → ℕ → Clock
clock_of m d =
    cond (ltb (year_of m) 2007) Unchanged
    (cond (eqb (month_of_year m) 3 && is_sunday 2 m d) Forward
    (cond (eqb (month_of_year m) 11 && is_sunday 1 m d) Back
    Unchanged))

-- So the clocks change on one day of a month at most: Changes m s k says that they do k on day s of month m, and nothing on any other day. Where they
-- do nothing on any day, s is 1. So m determines both (`changes_once`).
pub record Changes (m s : ℕ) (k : Clock) : Type 0 where
  pub some : 1 ≤ s
  pub each : (d : ℕ) → clock_of m d ≡ cond (eqb d s) k Unchanged
  pub none : k ≡ Unchanged → s ≡ 1

-- The day and what the clocks do on it, as `Changes` names them, of the change that a month has or hasn't.
abbrev pub day_of : Option Change → ℕ
day_of None = 1
day_of (Some change) = change.day

abbrev pub clock_by : Option Change → Clock
clock_by None = Unchanged
clock_by (Some change) = change.clock

-- What the clocks do on day d of a month with that change, or with none.
abbrev pub clock_on : Option Change → ℕ → Clock
clock_on change d = cond (eqb d (day_of change)) (clock_by change) Unchanged

-- "Each day has 96 quarter-hours", but of No. 1's two Sundays "Such a day has 92 or 100 quarters".
abbrev pub length_by : Clock → ℕ
length_by Unchanged = 96
length_by Forward = 92
length_by Back = 100

-- The readings of day d of month m.
unfoldable pub day_length : ℕ → ℕ → ℕ
day_length m d = length_by (clock_of m d)

-- "Each reading takes its period from its clock time": the quarter that reading j of a day stands for, "0 to 95, quarter 0 starting at midnight".
-- Where the hour from 02:00 to 03:00 is lacking, quarter 12 comes after quarter 7; where the hour from 01:00 to 02:00 comes twice, quarter 4.
unfoldable pub quarter_by : Clock → ℕ → ℕ
quarter_by Unchanged j = j
quarter_by Forward j = cond (ltb j 8) j (j + 4)
quarter_by Back j = cond (ltb j 8) j (j - 4)

-- The quarter of reading j of day d of month m.
unfoldable pub quarter_of : ℕ → ℕ → ℕ → ℕ
quarter_of m d j = quarter_by (clock_of m d) j

-- The readings of the first n days of month m.
unfoldable pub readings_through : ℕ → ℕ → ℕ
readings_through m zero = 0
readings_through m (suc n) = readings_through m n + day_length m (suc n)

-- "A register has 96 readings for each day of the month", or as many as that day has: the length of a register of month m.
unfoldable pub month_length : ℕ → ℕ
month_length m = readings_through m (days_in m)

-- No. 1 gives the lengths of months too: from 2007 on "March 2,972 readings, November 2,884", and "years before 2007 keep 96" for each day, as other
-- months do. The theorem `month_lengths` shows it of every month.
pub record MonthLengths (m : ℕ) : Type 0 where
  pub march : 2007 ≤ year_of m → month_of_year m ≡ 3 → month_length m ≡ 2972
  pub november : 2007 ≤ year_of m → month_of_year m ≡ 11 → month_length m ≡ 2884
  pub early : year_of m < 2007 → month_length m ≡ 96 * days_in m
  pub others : (month_of_year m ≡ 3 → ⊥) → (month_of_year m ≡ 11 → ⊥) → month_length m ≡ 96 * days_in m

-- The most readings of a month: 31 days of 96 (`month_length-le` of the laws).
abbrev pub most_readings : ℕ
most_readings = 31 * 96
