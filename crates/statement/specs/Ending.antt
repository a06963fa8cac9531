-- The numbers of verdicts and ends.
use Rattle.std.specs.Prelude.{ℕ, Result, Ok, Err}
use Rattle.statement.specs.declared.Verdict.{Verdict}
use Rattle.statement.specs.declared.Verdict.TheVariants.{Accepted, Refused, StoppedAtLine}
use Rattle.statement.specs.declared.Failure.{Failure}
use Rattle.statement.specs.declared.Failure.TheVariants.{Read, Write}
use Rattle.statement.specs.Status.{accepted, refused, stopped_at_line, read_failed, write_failed}

-- The status that a verdict is.
abbrev pub number_of : Verdict → ℕ
number_of Accepted = accepted
number_of Refused = refused
number_of StoppedAtLine = stopped_at_line

-- The number of an end: of its verdict, or of what could not be done.
abbrev pub end_of : Result Verdict Failure → ℕ
end_of (Ok verdict) = number_of verdict
end_of (Err Read) = read_failed
end_of (Err Write) = write_failed
