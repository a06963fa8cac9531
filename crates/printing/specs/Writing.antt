-- How a text is written to a lent buffer: from a place on, where there is room for any text of its kind.
use Rattle.std.specs.Prelude.{◌≡◌, Bool, cond, List, ℕ, ◌+◌, leb, length}
use Rattle.std.proofs.lemmas.List.Edits.{sets}

-- Whether a buffer has so many bytes from place i on.
unfoldable pub fits : ℕ → List ℕ → ℕ → Bool
fits room buffer i = leb (i + room) (length buffer)

-- A text was written from place i on, and ends at place j.
pub record Wrote (before : List ℕ) (i : ℕ) (text after : List ℕ) (j : ℕ) : Type 0 where
  pub bytes : after ≡ sets before i text
  pub end : j ≡ i + length text

-- A text was written where the buffer has so many bytes; otherwise nothing was.
pub record PutIn (room : ℕ) (before : List ℕ) (i : ℕ) (text after : List ℕ) (j : ℕ) : Type 0 where
  pub bytes : after ≡ cond (fits room before i) (sets before i text) before
  pub end : j ≡ cond (fits room before i) (i + length text) i

-- Each text of `statement` has at most this many bytes.
abbrev pub text_room : ℕ
text_room = 1024

-- Whether any one text fits into a buffer from a place on.
abbrev pub has_room : List ℕ → ℕ → Bool
has_room = fits text_room

-- A text was written where there is room; otherwise nothing was.
abbrev pub Put : List ℕ → ℕ → List ℕ → List ℕ → ℕ → Type 0
Put = PutIn text_room
