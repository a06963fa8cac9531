-- Document 01, "Billing", step 4: credit moves to the need of cheaper periods.
use Rattle.std.specs.Prelude.{ℕ, ◌+◌, ◌-◌, min}
use Rattle.hours.specs.declared.ByPeriod.{ByPeriod}
use Rattle.sharing.specs.declared.Shared.{Shared}

-- "For credit periods 0 to 3 in turn, and for each the cheaper periods in rising number": what goes from one period to another.
-- Period 3 has no cheaper one.
pub record Moves : Type 0 where
  pub from0to1 : ℕ
  pub from0to2 : ℕ
  pub from0to3 : ℕ
  pub from1to2 : ℕ
  pub from1to3 : ℕ
  pub from2to3 : ℕ

-- "move the smaller of what that credit and that need still have", in the order of the text.
unfoldable pub moves_of : ByPeriod → ByPeriod → Moves
moves_of credit need =
    let m01 : ℕ = min credit.critical need.onpeak in
    let m02 : ℕ = min (credit.critical - m01) need.offpeak in
    let m03 : ℕ = min (credit.critical - m01 - m02) need.discount in
    let m12 : ℕ = min credit.onpeak (need.offpeak - m02) in
    let m13 : ℕ = min (credit.onpeak - m12) (need.discount - m03) in
    let m23 : ℕ = min credit.offpeak (need.discount - m03 - m13) in
    record { from0to1 = m01; from0to2 = m02; from0to3 = m03; from1to2 = m12; from1to3 = m13; from2to3 = m23 }

-- "Moved out is summed by the credit's period".
abbrev pub moved_out : Moves → ByPeriod
moved_out s =
    record {
      critical = s.from0to1 + s.from0to2 + s.from0to3;
      onpeak = s.from1to2 + s.from1to3;
      offpeak = s.from2to3;
      discount = 0;
    }

-- "moved in by the need's".
abbrev pub moved_in : Moves → ByPeriod
moved_in s =
    record {
      critical = 0;
      onpeak = s.from0to1;
      offpeak = s.from0to2 + s.from1to2;
      discount = s.from0to3 + s.from1to3 + s.from2to3;
    }

-- What is left of each amount of a after the same amount of b is taken away.
abbrev pub less : ByPeriod → ByPeriod → ByPeriod
less a b =
    record {
      critical = a.critical - b.critical;
      onpeak = a.onpeak - b.onpeak;
      offpeak = a.offpeak - b.offpeak;
      discount = a.discount - b.discount;
    }

-- Step 4: what moved out of each credit and into each need; the credit still unspent (step 5 says what becomes of it); and
-- "Billed is the need still unmet".
unfoldable pub shared_of : ByPeriod → ByPeriod → Shared
shared_of credit need =
    let out : ByPeriod = moved_out (moves_of credit need) in
    let into : ByPeriod = moved_in (moves_of credit need) in
    record { out = out; into = into; unspent = less credit out; billed = less need into }
