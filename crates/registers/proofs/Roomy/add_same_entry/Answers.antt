-- `registers::Roomy::add_same_entry` adds the sum off-peak or discount, where a critical day changes nothing, or as `add_at_once` does.
use mathlib.Core.Path.{refl}
use native.Mathlib.Omega.{arith}
use Rattle.hours.proofs.Laws.{period_stays}
use Rattle.registers.proofs.Counting.{neither_above}
use Rattle.registers.proofs.Roomy.add_same_entry.Goals as goal

pub returns-in-2 : goal.returns-in-2
returns-in-2 c = rw (c.in-2.is, period_stays c.args.day.critical 2 (omega arith))
    (record {
      critical = omega arith;
      onpeak = omega arith;
      offpeak = omega arith;
      discount = omega arith;
      largest = omega arith;
      above = neither_above _ _ _ c.requires;
      last = refl;
    })

pub returns-in-3 : goal.returns-in-3
returns-in-3 c = rw (c.in-3.is, period_stays c.args.day.critical 3 (omega arith))
    (record {
      critical = omega arith;
      onpeak = omega arith;
      offpeak = omega arith;
      discount = omega arith;
      largest = omega arith;
      above = neither_above _ _ _ c.requires;
      last = refl;
    })
