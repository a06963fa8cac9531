use Rattle.std.proofs.Common.{◌≡◌}
use Rattle.std.specs.Slice.Iter.{split_inclusive_rest}
use Rattle.statement.specs.Status.{status_from}
use Rattle.statement.specs.Ending.{number_of}
use Rattle.statement.proofs.Telling.text.Given as goal

-- What is left of the text leads from the status so far to that after the whole.
abbrev pub invariant-loop-line : goal.invariant-loop-line
invariant-loop-line l = status_from (number_of l.self.verdict) (split_inclusive_rest l.line-iterator) ≡ status_from (number_of l.fn.self.verdict) l.text
