-- Document 01, "Calendar and hours": the periods, the schedule and the critical days' effect.
-- s is a season, k a kind of day, q a quarter of a day, p a period; m, d and j are as in the calendar.
use Rattle.std.specs.Prelude.{Bool, false, cond, ◌&&◌, ◌||◌, List, [], ◌∷◌, ◌++◌, ℕ, zero, suc, ◌+◌, eqb, leb, get_or}
use Rattle.calendar.specs.Calendar.{season_of, day_kind_of, quarter_of}
use Rattle.calendar.specs.declared.Season.{Season}
use Rattle.calendar.specs.declared.Season.TheVariants.{Winter, Summer}
use Rattle.calendar.specs.declared.DayKind.{DayKind}
use Rattle.calendar.specs.declared.DayKind.TheVariants.{Weekday, Weekend}
use Rattle.hours.specs.declared.ByPeriod.{ByPeriod}
use Rattle.hours.specs.CriticalDays.{is_critical}

-- "Four periods, dearest first: 0 critical, 1 on-peak, 2 off-peak, 3 discount."
abbrev pub critical : ℕ
critical = 0

abbrev pub on_peak : ℕ
on_peak = 1

abbrev pub off_peak : ℕ
off_peak = 2

abbrev pub discount : ℕ
discount = 3

-- "quarters 68 to 83 are on-peak every day" in winter; "quarters 52 to 71 are on-peak, Monday to Friday only" in summer.
unfoldable pub is_on_peak : Season → DayKind → ℕ → Bool
is_on_peak Winter k q = leb 68 q && leb q 83
is_on_peak Summer Weekday q = leb 52 q && leb q 71
is_on_peak Summer Weekend q = false

-- "In both seasons quarters 4 to 23 are discount every day", and "All others are off-peak."
unfoldable pub window_period : Season → DayKind → ℕ → ℕ
window_period s k q = cond (is_on_peak s k q) on_peak (cond (leb 4 q && leb q 23) discount off_peak)

-- The windows of n quarters of a day, from quarter q on.
unfoldable pub windows : Season → DayKind → ℕ → ℕ → List ℕ
windows s k q zero = []
windows s k q (suc n) = window_period s k q ∷ windows s k (suc q) n

-- "The hours are kept as a fixed schedule of 384 entries, one for each season, day kind and quarter": 96 for the weekdays and 96 for
-- the weekends of winter, then those of summer (our reading of the order). `entry_is` of the laws says it entry by entry.
unfoldable pub fixed_schedule : List ℕ
fixed_schedule = windows Winter Weekday 0 96 ++ windows Winter Weekend 0 96 ++ windows Summer Weekday 0 96 ++ windows Summer Weekend 0 96

-- Where the row of a season and a day kind starts in a schedule.
abbrev pub row_start : Season → DayKind → ℕ
row_start Winter Weekday = 0
row_start Winter Weekend = 96
row_start Summer Weekday = 192
row_start Summer Weekend = 288

-- 02 No. 6: "critical or on-peak", the periods that make a pair count in step 6.
abbrev pub is_peak : ℕ → Bool
is_peak p = eqb p critical || eqb p on_peak

-- "On a critical day its on-peak quarters become critical."
unfoldable pub period_on_day : Bool → ℕ → ℕ
period_on_day is_critical_day p = cond (is_critical_day && eqb p on_peak) critical p

-- The period of reading j of day d of month m by a schedule, where x names the critical days. A schedule has 384 entries; a missing one is read
-- as 0. `hours_are_the_windows` of the laws says it of the fixed schedule without its rows.
unfoldable pub period_of : List ℕ → ℕ → ℕ → ℕ → ℕ → ℕ
period_of schedule m x d j = period_on_day (is_critical x d) (get_or schedule (row_start (season_of m) (day_kind_of m d) + quarter_of m d j) 0)

-- The four amounts, dearest first, and then other numbers.
abbrev pub four : ByPeriod → List ℕ → List ℕ
four a rest = a.critical ∷ a.onpeak ∷ a.offpeak ∷ a.discount ∷ rest

-- Four amounts, one for each period, from the amount of period p.
abbrev pub by_period : (ℕ → ℕ) → ByPeriod
by_period f = record { critical = f critical; onpeak = f on_peak; offpeak = f off_peak; discount = f discount }
