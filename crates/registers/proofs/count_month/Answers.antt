-- `registers::count_month` counts day after day: `Counting` has the start, and `Day::count` each day.
use mathlib.Core.Path.{◌≡◌, sym, ◌∙◌}
use Prim.Native.Nat.{◌<◌, ◌+◌}
use native.Mathlib.Nat.{le_refl}
use native.Mathlib.Omega.{arith}
use Rattle.calendar.specs.Calendar.{days_in, clock_of, day_length}
use Rattle.calendar.proofs.Laws.{clock_of-is, day_length-is, month_length-le, through_none, through_more}
use Rattle.registers.proofs.Counting.{month_start, in_month}
use Rattle.registers.proofs.count_month.Goals as goal
use Rattle.registers.proofs.count_month.Goals.{After-clock_on-clock, After-length_by-start}

-- What the clocks do on the day, and how long it is.
clock : (c : After-clock_on-clock) → c.clock_on-clock.result ≡ clock_of c.args.month (c.loop-before.before + 1)
clock c = clock_of-is _ _ _ _ c.change_of-change.ensures.day c.clock_on-clock.ensures

length-is : (c : After-length_by-start) → c.length_by-start.result ≡ day_length c.args.month (c.loop-before.before + 1)
length-is c = c.length_by-start.ensures ∙ day_length-is _ _ (clock_of-is _ _ _ _ c.change_of-change.ensures.day c.clock_on-clock.ensures)

pub loop-before-init : goal.loop-before-init
loop-before-init c = (sym (through_none c.args.month), month_start _ _ _ _ _ (omega arith) (omega arith) (omega arith) (omega arith) (omega arith) (cc) (omega arith))

pub invariant_of-day : goal.invariant_of-day
invariant_of-day c = record {
  whole_month = c.requires;
  of_32_bits = λ i. omega (arith, c.type_inv.register i);
  in_month = omega (arith, c.days_in-days.ensures);
  at_start = c.loop-before.invariant.0;
  by_clock = clock c;
}

pub overflow_add-start : goal.overflow_add-start
overflow_add-start c =
    let h : c.loop-before.before < days_in c.args.month = omega (arith, c.days_in-days.ensures) in
    omega (
      arith,
      length-is c,
      month_length-le c.args.month,
      in_month c.args.schedule.now c.args.month c.args.critical_days c.args.register.now c.loop-before.before
          (day_length c.args.month (c.loop-before.before + 1))
          h
          (le_refl _),
    )

pub loop-before-preserved : goal.loop-before-preserved
loop-before-preserved c = (
  omega (arith, length-is c, through_more c.args.month c.loop-before.before),
  c.count-count.ensures,
)

pub returns : goal.returns
returns c =
    let e : c.loop-before.before ≡ days_in c.args.month = omega (arith, c.days_in-days.ensures) in
    rw e at c.loop-before.invariant.1
