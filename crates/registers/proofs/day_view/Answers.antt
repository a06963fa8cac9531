-- `registers::day_view` hands back a part of a lent register: `View` says which.
use mathlib.Core.Path.{◌≡◌, refl, sym}
use mathlib.Core.Bool.{false, cond}
use Prim.Native.Nat.{◌+◌, ◌-◌, ◌≤◌}
use native.Mathlib.Omega.{arith}
use borrow.Author.Tests.{eq-eqb, ne_eqb}
use lib.Dec.{eqb}
use lib.ListN.{length}
use Rattle.calendar.specs.Calendar.{month_length, day_length, readings_through}
use Rattle.calendar.proofs.Laws.{month_length-le}
use Rattle.registers.specs.DayView.{empty_view}
use Rattle.registers.proofs.View.{viewed, not_shown, shown, day_end, empty_part, day_part}
use Rattle.registers.proofs.day_view.Goals as goal
use Rattle.registers.proofs.day_view.Goals.{Joined-number-eq0, then-number-eq0, else-number-eq0}

pub returns-in_default : goal.returns-in_default
returns-in_default c = record { part = empty_part _ _ _ _ _ _ (not_shown _ _ _ _ _ c.in_default.ensures) refl refl }

some : (c : Joined-number-eq0) → (empty_view c.args.delivered.now c.args.received.now c.args.month c.args.day c.args.number ≡ false)
    × (c.in-Some.start ≡ readings_through c.args.month (c.args.day - 1)) × (c.in-Some.count ≡ day_length c.args.month c.args.day)
some c = shown _ _ _ _ _ _ _ c.in-Some.ensures

within : (c : Joined-number-eq0) → c.in-Some.start + c.in-Some.count ≤ month_length c.args.month
within c =
    let e = some c in
    let seen = viewed _ _ _ _ _ e.0 in
    omega (arith, e.1, e.2, day_end c.args.month c.args.day seen.first seen.last)

long : (c : Joined-number-eq0) → length c.if-number-eq0.register.now ≡ month_length c.args.month
long c =
    let seen = viewed _ _ _ _ _ (some c).0 in
    elim c.if-number-eq0.branch [
      | then-number-eq0 w ↦ rw w.register-is seen.delivered_length
      | else-number-eq0 w ↦ rw w.register-is seen.received_length
    ]

pub overflow_add-result : goal.overflow_add-result
overflow_add-result c = omega (arith, within c, month_length-le c.args.month)

pub offset_bounds-register-start : goal.offset_bounds-register-start
offset_bounds-register-start c = omega (arith, within c, month_length-le c.args.month)

pub slice_bounds-result-end-2 : goal.slice_bounds-result-end-2
slice_bounds-result-end-2 c = omega (arith, within c, long c)

pub returns : goal.returns
returns c =
    let e = shown _ _ _ _ _ _ _ c.in-Some.ensures in
    let named : cond (eqb c.args.number 0) c.args.delivered c.args.received ≡ c.if-number-eq0.register =
    elim c.if-number-eq0.branch [
      | then-number-eq0 w ↦ rw (eq-eqb _ _ w.if-number-eq0.true) (sym w.register-is)
      | else-number-eq0 w ↦ rw (ne_eqb _ _ w.if-number-eq0.false) (sym w.register-is)
    ] in
    record { part = day_part _ _ _ _ _ _ e.0 c.if-number-eq0.register named _ _ e.1 e.2 refl refl }
