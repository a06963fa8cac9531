-- Which line is expected next, as the number that `Statement` gives it.
use Rattle.std.specs.Prelude.{ℕ}
use Rattle.lines.specs.Statement.{bill_expected, critical_expected, run_expected, stopped}
use Rattle.progress.specs.declared.expected.OpeningLine.{OpeningLine}
use Rattle.progress.specs.declared.expected.OpeningLine.TheVariants.{Opens, Rider, Class, Nameplates, Limit, Assisted, Prices, Demand, Standby, Bypass, Credit, Distribution, Basic, Minimum}
use Rattle.progress.specs.declared.expected.Expected.{Expected}
use Rattle.progress.specs.declared.expected.Expected.TheVariants.{Opening, Bill, Critical, Run, Stopped}

-- Line k + 1 of the opening has place k.
abbrev pub line_place : OpeningLine → ℕ
line_place Opens = 0
line_place Rider = 1
line_place Class = 2
line_place Nameplates = 3
line_place Limit = 4
line_place Assisted = 5
line_place Prices = 6
line_place Demand = 7
line_place Standby = 8
line_place Bypass = 9
line_place Credit = 10
line_place Distribution = 11
line_place Basic = 12
line_place Minimum = 13

abbrev pub number_of : Expected → ℕ
number_of (Opening l) = line_place l
number_of Bill = bill_expected
number_of Critical = critical_expected
number_of Run = run_expected
number_of Stopped = stopped
