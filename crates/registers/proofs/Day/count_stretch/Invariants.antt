use Rattle.std.proofs.Common.{◌≡◌, ◌+◌, ◌*◌, length, drop}
use Rattle.std.specs.Iterator.Adapters.{zip_first, zip_second}
use Rattle.std.specs.Slice.Iter.{iter_rest}
use Rattle.registers.specs.Counting.{DayCounted}
use Rattle.registers.proofs.Day.count_stretch.Given as goal

-- So many pairs of the stretch are counted, and those behind them are left.
abbrev pub invariant-loop-entry : goal.invariant-loop-entry
invariant-loop-entry l =
    let n = length l.yielded in
    (iter_rest (zip_first l.entry-iterator) ≡ drop n (iter_rest (zip_first l.initial.entry-iterator)))
    × (iter_rest (zip_second l.entry-iterator) ≡ drop n (iter_rest (zip_second l.initial.entry-iterator)))
    × DayCounted l.self.schedule.now l.self.month l.self.critical_days l.self.register.now l.self.before (l.from + 2 * n) l.so_far
