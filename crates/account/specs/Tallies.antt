-- What the private functions promise each other. No public contract cites this file.
use Rattle.std.specs.Prelude.{Bool, false, ◌||◌}
use Rattle.registers.specs.declared.Tally.{Tally}
use Rattle.refusals.specs.declared.Condition.{Condition}
use Rattle.refusals.specs.declared.Faults.{Faults}
use Rattle.account.specs.declared.Account.{Account}
use Rattle.account.specs.Refusals.{is_fresh, is_open, unusable}

-- What is wrong with a billing, from the tallies of delivered and received, which have the month's length, and whether its critical days are refused.
abbrev pub faults_from : Tally → Tally → Bool → Faults
faults_from delivered received wrongdays =
    record {
      wronglength = false;
      wrongdays = wrongdays;
      abovelimit = delivered.abovelimit || received.abovelimit;
      firstlost = delivered.firstlost || received.firstlost;
    }

-- What the first rows of the table ask of an account.
abbrev pub condition_of : Account → Condition
condition_of a = record { fresh = is_fresh a.stage; opened = is_open a.stage; unusable = unusable a }
