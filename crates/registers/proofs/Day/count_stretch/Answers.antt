-- `registers::Day::count_stretch` adds a day's readings pair by pair: `Counting` has the step, and `Pairs` the entries and readings of a pair.
use mathlib.Core.Path.{◌≡◌, refl, sym, ◌∙◌}
use mathlib.Core.List.{[], ◌∷◌, ◌++◌}
use Prim.Native.Nat.{ℕ, suc, ◌≤◌, ◌<◌, ◌-◌, ◌+◌, ◌*◌}
use native.Mathlib.Omega.{arith}
use lib.ListN.{length, get_or, drop, length-append, length-take, length-drop}
use Rattle.std.specs.Iterator.Adapters.{zip_first, zip_second}
use Rattle.std.specs.Slice.Iter.{iter_rest}
use Rattle.calendar.specs.Calendar.{season_of, day_kind_of, quarter_of}
use Rattle.calendar.proofs.Laws.{days_in-le, day_length-le, quarter_of-lt, quarter_of-is}
use Rattle.hours.proofs.Laws.{row_start-le, period_is}
use Rattle.registers.proofs.Counting.{pair_step, in_month, room}
use Rattle.registers.proofs.Pairs.{first_left, taken_at}
use Rattle.registers.proofs.Day.count_stretch.Goals as goal
use Rattle.registers.proofs.Day.count_stretch.Goals.{After-quarter_by, In-Some}

pub overflow_add-self : goal.overflow_add-self
overflow_add-self c = omega (arith, days_in-le c.args.self.month)

pub overflow_cast-from : goal.overflow_cast-from
overflow_cast-from c = omega (arith, c.requires, day_length-le c.args.self.month (c.args.self.before + 1))

-- The quarter of each reading of the stretch.
quarter : (c : After-quarter_by) (p : ℕ) → c.args.from ≤ p → p < c.args.to
    → c.quarter_by.result + (p - c.args.from) ≡ quarter_of c.args.self.month (c.args.self.before + 1) p
quarter c p l h =
    quarter_of-is _ _ _ c.args.self.by_clock (omega (arith, c.requires.follows.each p l h, c.quarter_by.ensures))

-- The places of all quarters are within the schedule, and those of all readings within the register.
in_schedule : (c : After-quarter_by) → c.day_hours-day_hours.result.row + c.quarter_by.result + (c.args.to - c.args.from) ≤ 384
in_schedule c =
    let last = c.args.to - 1 in
    omega (
      arith,
      c.requires.follows.some,
      c.day_hours-day_hours.ensures.0,
      row_start-le (season_of c.args.self.month) (day_kind_of c.args.self.month (c.args.self.before + 1)),
      quarter c last (omega (arith, c.requires.follows.some)) (omega (arith, c.requires.follows.some)),
      quarter_of-lt c.args.self.month (c.args.self.before + 1) last (omega (arith, c.requires.follows.some, c.requires.to_bound)),
    )

in_register : (c : After-quarter_by) → c.args.self.start + c.args.to ≤ length c.args.self.register.now
in_register c =
    let day = c.args.self in
    omega (
      arith,
      day.whole_month,
      day.at_start,
      in_month day.schedule.now day.month day.critical_days day.register.now day.before c.args.to day.in_month c.requires.to_bound,
    )

pub overflow_add-first : goal.overflow_add-first
overflow_add-first c = omega (arith, in_schedule (goal.at.overflow_add-first c).After-quarter_by)

pub overflow_add-first-2 : goal.overflow_add-first-2
overflow_add-first-2 c = omega (arith, in_schedule (goal.at.overflow_add-first-2 c).After-quarter_by)

pub slice_bounds-as_chunks-end : goal.slice_bounds-as_chunks-end
slice_bounds-as_chunks-end c = in_schedule (goal.at.slice_bounds-as_chunks-end c).After-quarter_by

pub overflow_add-self-2 : goal.overflow_add-self-2
overflow_add-self-2 c = omega (arith, c.requires.follows.some, in_register (goal.at.overflow_add-self-2 c).After-quarter_by)

pub overflow_add-self-3 : goal.overflow_add-self-3
overflow_add-self-3 c = omega (arith, in_register (goal.at.overflow_add-self-3 c).After-quarter_by)

pub offset_bounds-register-self : goal.offset_bounds-register-self
offset_bounds-register-self c = omega (arith, c.requires.follows.some, in_register (goal.at.offset_bounds-register-self c).After-quarter_by)

pub slice_bounds-as_chunks-end-2 : goal.slice_bounds-as_chunks-end-2
slice_bounds-as_chunks-end-2 c = in_register (goal.at.slice_bounds-as_chunks-end-2 c).After-quarter_by

-- The pairs that the loop begins with, and those that it has left.
abbrev counted : In-Some → ℕ
counted c = length c.loop-entry.yielded

entries : (c : In-Some) → iter_rest (zip_first c.into_iter-entry-iterator.result) ≡ c.as_chunks.result.0.now
entries c = rw (c.into_iter-entry-iterator.ensures.into_iter_gives, c.zip-entry-items.ensures.first) c.iter.ensures.rest

readings : (c : In-Some) → iter_rest (zip_second c.into_iter-entry-iterator.result) ≡ c.as_chunks-2.result.0.now
readings c = rw c.into_iter-entry-iterator.ensures.into_iter_gives c.zip-entry-items.ensures.second.0

entries_left : (c : In-Some) → drop (counted c) (iter_rest (zip_first c.into_iter-entry-iterator.result)) ≡ c.in-Some.field-0-0.now ∷ iter_rest (zip_first c.next.new.self)
entries_left c = sym c.loop-entry.invariant.0 ∙ c.in-Some.ensures.steps.0

readings_left : (c : In-Some) → drop (counted c) (iter_rest (zip_second c.into_iter-entry-iterator.result)) ≡ c.in-Some.field-0-1.now ∷ iter_rest (zip_second c.next.new.self)
readings_left c = sym c.loop-entry.invariant.1 ∙ c.in-Some.ensures.steps.1

-- The pair is one of those of the stretch, which has no half of one.
within_entries : (c : In-Some) → counted c < length c.as_chunks.result.0.now
within_entries c = rw (entries c) at (first_left (counted c) _ _ [] _ (entries_left c)).within

within_readings : (c : In-Some) → counted c < length c.as_chunks-2.result.0.now
within_readings c = rw (readings c) at (first_left (counted c) _ _ [] _ (readings_left c)).within

-- The place of its first reading.
abbrev place : In-Some → ℕ
place c = c.args.from + 2 * counted c

whole : (c : In-Some) → place c + 1 < c.args.to
whole c = omega (arith, within_entries c, c.as_chunks.ensures.front_len, c.requires.even, length-take {A = ℕ}, length-drop {A = ℕ})

-- The entry of the schedule and the reading that each quarter of the pair has.
entry : (c : In-Some) (j : ℕ) → j < 2 → get_or c.in-Some.field-0-0.now j 0
    ≡ get_or c.args.self.schedule.now (c.day_hours-day_hours.result.row + (c.quarter_by.result + (place c + j - c.args.from))) 0
entry c j h =
    let first = c.day_hours-day_hours.result.row + c.quarter_by.result in
    let e : c.day_hours-day_hours.result.row + (c.quarter_by.result + (place c + j - c.args.from)) ≡ first + (2 * counted c + j) = omega arith in
    rw
    e
    (taken_at
    c.args.self.schedule.now
    first
    (first + (c.args.to - c.args.from))
    _
    (counted c)
    j
    (entries c ∙ c.as_chunks.ensures.front)
    (entries_left c)
    (omega (arith, within_entries c, c.as_chunks.ensures.front_len))
    h
    (omega (arith, whole c)))

reading : (c : In-Some) (j : ℕ) → j < 2 → get_or c.in-Some.field-0-1.now j 0 ≡ get_or c.args.self.register.now (c.args.self.start + (place c + j)) 0
reading c j h =
    let e : c.args.self.start + (place c + j) ≡ c.args.self.start + c.args.from + (2 * counted c + j) = omega arith in
    rw
    e
    (taken_at
    c.args.self.register.now
    (c.args.self.start + c.args.from)
    (c.args.self.start + c.args.to)
    _
    (counted c)
    j
    (readings c ∙ c.as_chunks-2.ensures.front)
    (readings_left c)
    (omega (arith, within_readings c, c.as_chunks-2.ensures.front_len))
    h
    (omega (arith, whole c)))

pub invariant_of-add_pair : goal.invariant_of-add_pair
invariant_of-add_pair c = record {
  room = room
      _ _ _ _
      (λ i. omega (arith, c.args.self.of_32_bits i))
      _ _ _
      c.loop-entry.invariant.2
      c.args.self.in_month
      (omega (arith, whole (goal.at.invariant_of-add_pair c).In-Some, c.requires.to_bound));
}

pub loop-entry-preserved : goal.loop-entry-preserved
loop-entry-preserved c =
    let begun = (goal.at.loop-entry-preserved c).After-quarter_by in
    let at = (goal.at.loop-entry-preserved c).In-Some in
    let n = length c.loop-entry.yielded in
    let more : length (c.loop-entry.yielded ++ (c.in-Some.field-0-0, c.in-Some.field-0-1) ∷ []) ≡ suc n = omega (arith, length-append c.loop-entry.yielded ((c.in-Some.field-0-0, c.in-Some.field-0-1) ∷ [])) in
    let next : c.args.from + 2 * suc n ≡ place at + 2 = omega arith in
    let same : place at + 0 ≡ place at = omega arith in
    let told = c.day_hours-day_hours.ensures in
    let added = rw (entry at 0 (omega arith), entry at 1 (omega arith), reading at 0 (omega arith), reading at 1 (omega arith), same) at c.add_pair-so_far.ensures in
    rw (more, next) (
      (first_left n _ _ [] _ (entries_left at)).rest,
      (first_left n _ _ [] _ (readings_left at)).rest,
      pair_step
          _ _ _ _ _
          (place at)
          _ _
          c.args.self.at_start
          (omega (arith, c.requires.even))
          (period_is _ _ _ _ _ told.0 told.1 (quarter begun (place at) (omega arith) (omega (arith, whole at))) refl)
          (period_is _ _ _ _ _ told.0 told.1 (quarter begun (place at + 1) (omega arith) (whole at)) refl)
          c.loop-entry.invariant.2
          added,
    )
