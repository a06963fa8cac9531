-- What the private functions promise each other. No public contract cites this file.
use Rattle.std.specs.Prelude.{cond, ◌&&◌, List, [], ◌∷◌, ℕ, leb}
use Rattle.calendar.specs.Calendar.{month_number}

-- The number of a month from what was read of its year and its month of the year.
unfoldable pub month_from : ℕ → ℕ → List ℕ
month_from y k = cond (leb 2000 y && leb y 9999 && leb 1 k && leb k 12) (month_number y k ∷ []) []
