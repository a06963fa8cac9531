-- How several numbers are handed back.
use Rattle.std.specs.Prelude.{Option, Some, None, List, [], ℕ}
use Rattle.arrayvec.specs.ArrayVec.{ArrayVec}

-- The numbers that were read, and none where the text is unreadable.
abbrev pub items_of : Option (ArrayVec ℕ) → List ℕ
items_of None = []
items_of (Some numbers) = numbers.items
