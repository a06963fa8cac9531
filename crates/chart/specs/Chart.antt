-- Document 01, "Figures for the wall chart": a to l, as one chart.
use Rattle.std.specs.Prelude.{◌≡◌, Bool, true, false, List, ◌∷◌, ℕ, ◌-◌, replicate}
use Rattle.calendar.specs.Calendar.{month_number, first_weekday, month_length}
use Rattle.hours.specs.Hours.{on_peak, fixed_schedule}
use Rattle.hours.specs.declared.ByPeriod.{ByPeriod}
use Rattle.registers.specs.Registers.{sum_of}
use Rattle.sharing.specs.Sharing.{shared_of}
use Rattle.tariff.specs.declared.Rider.TheVariants.{Banked, Bridge}
use Rattle.tariff.specs.declared.Class.TheVariants.{Home, Business}
use Rattle.tariff.specs.declared.Terms.{Terms}
use Rattle.tariff.specs.declared.PriceList.{PriceList}
use Rattle.tariff.specs.Tariff.{most_nameplates}
use Rattle.charges.specs.Charges.{cents, standby_line, shortfall_line, granted_of}
use Rattle.billing.specs.Billing.{none, bill_from}
use Rattle.billing.specs.declared.Bill.{Bill}

-- Four amounts, dearest period first; and off-peak Wh alone.
abbrev pub amounts : ℕ → ℕ → ℕ → ℕ → ByPeriod
amounts p q r s = record { critical = p; onpeak = q; offpeak = r; discount = s }

abbrev pub off_peak_only : ℕ → ByPeriod
off_peak_only x = amounts 0 0 x 0

-- The prices and amounts of e to j; all others are 0.
abbrev pub chart_prices : PriceList
chart_prices =
    record {
      energy = none;
      demand = 0;
      standby = 172350;
      bypass = 0;
      credit = 3350;
      distribution = 4493;
      basic = 1400;
      minimum = 2200;
    }

-- One nameplate of w W, in the first of eight places.
abbrev pub one_nameplate : ℕ → List ℕ
one_nameplate w = w ∷ replicate (most_nameplates - 1) 0

-- A home under the bridge rider, assisted or not, and a business; w is the nameplate.
abbrev pub bridge_home : Bool → ℕ → Terms
bridge_home assisted w = record { rider = Bridge; class = Home; count = 1; nameplates = one_nameplate w; limit = w; assisted = assisted }

abbrev pub banked_business : ℕ → Terms
banked_business w = record { rider = Banked; class = Business; count = 1; nameplates = one_nameplate w; limit = w; assisted = false }

-- Figure k: July 2001.
abbrev pub july2001 : ℕ
july2001 = month_number 2001 7

-- Figure l: a banked account in June, whatever its prices, standing money and demand.
abbrev pub june_bill : PriceList → ℕ → ℕ → Bill
june_bill l standing power =
    bill_from (banked_business 1) l (off_peak_only 5000) standing (month_number 2001 6) (off_peak_only 3000) none power

-- "Proved against the definitions as one chart, by one theorem".
pub record WallChart : Type 0 where
  pub a_out : (shared_of (amounts 10 0 5 0) (amounts 0 4 0 9)).out ≡ amounts 10 0 3 0
  pub a_in : (shared_of (amounts 10 0 5 0) (amounts 0 4 0 9)).into ≡ amounts 0 4 0 9
  pub a_unspent : (shared_of (amounts 10 0 5 0) (amounts 0 4 0 9)).unspent ≡ amounts 0 0 2 0
  pub b_out : (shared_of (amounts 0 0 0 7) (amounts 3 0 0 0)).out ≡ none
  pub b_in : (shared_of (amounts 0 0 0 7) (amounts 3 0 0 0)).into ≡ none
  pub c : cents 499999 ≡ 0
  pub d : cents 500000 ≡ 1
  pub e : granted_of (bridge_home false 8000) chart_prices (off_peak_only 10000) ≡ 34
  pub f : shortfall_line (bridge_home false 8000) chart_prices (off_peak_only 100000) ≡ 351
  pub g : shortfall_line (bridge_home true 8000) chart_prices (off_peak_only 100000) ≡ 0
  pub h : shortfall_line (bridge_home true 8001) chart_prices (off_peak_only 100000) ≡ 351
  pub i : standby_line (banked_business 100000) chart_prices ≡ 0
  pub j : standby_line (banked_business 100001) chart_prices ≡ 17235
  -- Sunday is 6; with 1 Wh in each quarter the sum of a period is the number of its quarters.
  pub k_begins : first_weekday july2001 ≡ 6
  pub k_quarters : sum_of fixed_schedule july2001 0 (replicate (month_length july2001) 1) on_peak ≡ 440
  pub l_forfeited : (l : PriceList) (standing power : ℕ) → (june_bill l standing power).forfeited ≡ off_peak_only 5000
  pub l_own : (l : PriceList) (standing power : ℕ) → (june_bill l standing power).own ≡ none
  pub l_billed : (l : PriceList) (standing power : ℕ) → (june_bill l standing power).billed ≡ off_peak_only 3000
  pub l_left : (l : PriceList) (standing power : ℕ) → (june_bill l standing power).left ≡ none
