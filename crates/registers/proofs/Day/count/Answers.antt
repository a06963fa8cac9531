-- `registers::Day::count` counts one stretch, or those before and after the change of the clocks: `Counting` has the start and the end.
use mathlib.Core.Path.{◌≡◌, refl, ◌∙◌}
use Prim.Native.Nat.{◌+◌}
use native.Mathlib.Omega.{arith}
use Rattle.calendar.specs.Calendar.{day_length}
use Rattle.calendar.proofs.Laws.{early_quarter, late_quarter, unchanged_quarter, length_by-ge, length_by-even, day_length-is}
use Rattle.registers.proofs.Counting.{day_start, day_end}
use Rattle.registers.proofs.Day.count.Goals as goal
use Rattle.registers.proofs.Day.count.Goals.{After-length_by-length}

-- The day's length.
whole : (c : After-length_by-length) → c.length_by-length.result ≡ day_length c.args.self.month (c.args.self.before + 1)
whole c = c.length_by-length.ensures ∙ day_length-is _ _ c.args.self.by_clock

pub count_stretch-requires : goal.count_stretch-requires
count_stretch-requires c = record {
  day_counted = day_start _ _ _ _ _ _ c.requires;
  to_bound = omega (arith, whole (goal.at.count_stretch-requires c).After-length_by-length);
  follows = record {
    some = omega (arith, c.length_by-length.ensures, length_by-ge c.args.self.clock);
    each = λ p l h. rw (c.in-Unchanged.is, unchanged_quarter p, unchanged_quarter 0) (omega arith);
  };
  even = (refl, rw c.length_by-length.ensures (length_by-even c.args.self.clock));
}

pub count_stretch-earlier-requires : goal.count_stretch-earlier-requires
count_stretch-earlier-requires c = record {
  day_counted = day_start _ _ _ _ _ _ c.requires;
  to_bound = omega (arith, whole (goal.at.count_stretch-earlier-requires c).After-length_by-length, c.length_by-length.ensures, length_by-ge c.args.self.clock);
  follows = record {
    some = omega arith;
    each = λ p l h. rw (early_quarter _ p h, early_quarter _ 0 (omega arith)) (omega arith);
  };
  even = (refl, refl);
}

pub count_stretch-requires-in_default : goal.count_stretch-requires-in_default
count_stretch-requires-in_default c = record {
  day_counted = c.count_stretch-earlier.ensures;
  to_bound = omega (arith, whole (goal.at.count_stretch-requires-in_default c).After-length_by-length);
  follows = record {
    some = omega (arith, c.length_by-length.ensures, length_by-ge c.args.self.clock);
    each = λ p l h. late_quarter _ _ p (omega arith) l;
  };
  even = (refl, rw c.length_by-length.ensures (length_by-even c.args.self.clock));
}

pub returns-in-Unchanged : goal.returns-in-Unchanged
returns-in-Unchanged c = day_end _ _ _ _ _ _ (rw (whole (goal.at.returns-in-Unchanged c).After-length_by-length) at c.count_stretch.ensures)

pub returns-in_default : goal.returns-in_default
returns-in_default c = day_end _ _ _ _ _ _ (rw (whole (goal.at.returns-in_default c).After-length_by-length) at c.count_stretch-in_default.ensures)
