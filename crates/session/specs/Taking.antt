-- What the private functions promise each other. No public contract cites this file.
use Rattle.std.specs.Prelude.{◌≡◌, cond, List, [], ◌∷◌, ◌++◌, ℕ, zero, suc, ◌+◌, ◌-◌, ◌≤◌, ◌<◌, eqb, length, take, drop}
use Rattle.printing.specs.Writing.{text_room, Wrote}
use Rattle.lines.specs.Statement.{State}
use Rattle.lines.specs.Feeding.{kept_bytes, SoFar, after, printed, taken_of, Registers, registers_after}
use Rattle.session.specs.declared.Session.{Session}
use Rattle.session.specs.Sessions.{kept_line, so_far_of, registers_of}

-- What is kept of a line after more bytes of it.
abbrev pub kept_of : List ℕ → List ℕ → List ℕ
kept_of line bytes = take kept_bytes (line ++ bytes)

-- More bytes are held where there is room; what was read is the same.
pub record Keeps (x : Session) (bytes : List ℕ) (y : Session) : Type 0 where
  pub room : length (kept_line x.held) ≤ kept_bytes
  pub line : kept_line y.held ≡ kept_of (kept_line x.held) bytes
  pub progress : y.progress ≡ x.progress

-- How many bytes there are up to the first newline, with it; all where there is none.
unfoldable pub line_bytes : List ℕ → ℕ
line_bytes [] = zero
line_bytes (b ∷ bs) = suc (cond (eqb b 10) zero (line_bytes bs))

-- The bytes that are held, and the state.
abbrev pub held : List ℕ → State → SoFar
held l s = record { line = l; state = s }

-- They are taken, and a text is written from place i on.
pub record TakesBytes
    (before : SoFar) (r : Registers) (input : List ℕ) (out : List ℕ) (i : ℕ) (taken : ℕ) (later : SoFar) (q : Registers) (j : ℕ) (out_later : List ℕ) : Type 0 where
  pub takes : taken ≡ line_bytes input
  pub stands : later ≡ after before (take taken input)
  pub registers : q ≡ registers_after before (take taken input) r
  pub text : Wrote out i (printed before (take taken input)) out_later j

abbrev pub TakesLine : Session → List ℕ → List ℕ → ℕ → ℕ → Session → ℕ → List ℕ → Type 0
TakesLine x input out i taken y j out_later = TakesBytes (so_far_of x) (registers_of x) input out i taken (so_far_of y) (registers_of y) j out_later

-- Some bytes are taken, and the rest as if they came after them; a text is written from place i on.
pub record TakesSome
    (before : SoFar) (r : Registers) (input : List ℕ) (out : List ℕ) (i : ℕ) (taken : ℕ) (later : SoFar) (q : Registers) (j : ℕ) (out_later : List ℕ) : Type 0 where
  pub some : 0 < length input → 0 < taken
  pub inside : taken ≤ length input
  pub stands : later ≡ after before (take taken input)
  pub registers : q ≡ registers_after before (take taken input) r
  pub text : Wrote out i (printed before (take taken input)) out_later j
  pub short : length (printed before (take taken input)) ≤ text_room
  pub rest : (room : ℕ) → text_room ≤ room
      → taken_of room before input ≡ taken + taken_of (room - length (printed before (take taken input))) later (drop taken input)

abbrev pub Takes : Session → List ℕ → List ℕ → ℕ → ℕ → Session → ℕ → List ℕ → Type 0
Takes x input out i taken y j out_later = TakesSome (so_far_of x) (registers_of x) input out i taken (so_far_of y) (registers_of y) j out_later
