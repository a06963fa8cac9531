-- The wall chart holds: each figure is computed from the definitions.
use mathlib.Core.Path.{refl}
use Rattle.calendar.specs.Calendar.{is_leap, leap_day, days_in, first_weekday, weekday_of, day_kind_of, season_of, clock_of, day_length, quarter_by, quarter_of}
use Rattle.calendar.specs.Calendar.{readings_through, month_length}
use Rattle.hours.specs.CriticalDays.{is_critical}
use Rattle.hours.specs.Hours.{is_on_peak, window_period, windows, fixed_schedule, period_on_day, period_of}
use Rattle.registers.specs.Registers.{reading, is_lost, counts_as, day_sum, days_sum, sum_of}
use Rattle.sharing.specs.Sharing.{moves_of, shared_of}
use Rattle.tariff.specs.Tariff.{nameplates_of, total_nameplate}
use Rattle.charges.specs.Charges.{cents, standby_line, is_exempt, shortfall_line, granted_of}
use Rattle.billing.specs.Billing.{resets, forfeited_by, kept_by, netted_of, shared_under, left_of, paid_of, bill_from}
use Rattle.chart.specs.Chart.{WallChart}

pub wall_chart : WallChart
unfolding
    moves_of shared_of cents granted_of shortfall_line standby_line is_exempt nameplates_of total_nameplate is_leap leap_day days_in first_weekday weekday_of day_kind_of season_of clock_of day_length quarter_by quarter_of readings_through month_length is_critical is_on_peak window_period windows fixed_schedule period_on_day period_of reading is_lost counts_as day_sum days_sum sum_of resets forfeited_by kept_by netted_of shared_under left_of paid_of bill_from
wall_chart =
    record {
      a_out = refl;
      a_in = refl;
      a_unspent = refl;
      b_out = refl;
      b_in = refl;
      c = refl;
      d = refl;
      e = refl;
      f = refl;
      g = refl;
      h = refl;
      i = refl;
      j = refl;
      k_begins = refl;
      k_quarters = refl;
      l_forfeited = λ l standing power. refl;
      l_own = λ l standing power. refl;
      l_billed = λ l standing power. refl;
      l_left = λ l standing power. refl;
    }
