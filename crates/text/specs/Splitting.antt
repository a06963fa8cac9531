-- A text is split in two at the first of a byte, where it has one.
use Rattle.std.specs.Prelude.{◌≡◌, List, ℕ, ◌+◌, ◌<◌, length, take, drop}
use Rattle.text.specs.Text.{place_of}

-- It has none.
abbrev pub Whole : ℕ → List ℕ → Type 0
Whole b l = place_of b l ≡ length l

-- What stands before the first one, and what stands behind it.
pub record Split (b : ℕ) (l front rest : List ℕ) : Type 0 where
  pub within : place_of b l < length l
  pub before : front ≡ take (place_of b l) l
  pub behind : rest ≡ drop (place_of b l + 1) l
