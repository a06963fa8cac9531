-- How long the statement of an input is.
use Rattle.std.specs.Prelude.{List, ℕ, min, length}
use Rattle.lines.specs.Statement.{last_number}

-- Our rule: a length that 64 bits can't hold stays at their largest number, as numbers of lines do.
unfoldable pub length_of : List ℕ → ℕ
length_of text = min (length text) last_number
