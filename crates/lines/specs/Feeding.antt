-- `statement` fed with bytes as they come.
use Rattle.std.specs.Prelude.{◌≡◌, true, cond, List, [], ◌∷◌, ◌++◌, ℕ, zero, suc, ◌+◌, ◌-◌, eqb, leb, length, take}
use Rattle.std.proofs.lemmas.List.Edits.{sets}
use Rattle.grammar.specs.Grammar.{longest_line}
use Rattle.printing.specs.Writing.{text_room}
use Rattle.lines.specs.Statement.{State, has_stopped, start, line_read, at_end, statement_of}

-- Of a line that isn't complete yet one byte more is kept than the longest readable line has: it tells that the line is too long.
abbrev pub kept_bytes : ℕ
kept_bytes = longest_line + 1

-- What has been read, and the line that isn't complete yet.
pub record SoFar : Type 0 where
  pub line : List ℕ
  pub state : State

abbrev pub nothing_read : SoFar
nothing_read = record { line = []; state = start }

-- After one byte more, and what it prints.
unfoldable pub after_byte : SoFar → ℕ → SoFar
after_byte x b =
    cond (eqb b 10) (record { line = []; state = (line_read x.line x.state).state })
    (record { line = take kept_bytes (x.line ++ b ∷ []); state = x.state })

unfoldable pub byte_text : SoFar → ℕ → List ℕ
byte_text x b = cond (eqb b 10) (line_read x.line x.state).text []

unfoldable pub after : SoFar → List ℕ → SoFar
after x [] = x
after x (b ∷ bs) = after (after_byte x b) bs

unfoldable pub printed : SoFar → List ℕ → List ℕ
printed x [] = []
printed x (b ∷ bs) = byte_text x b ++ printed (after_byte x b) bs

-- Two registers that a caller lends: the month's readings are stored at their fronts, and what lies past them is unaltered.
pub record Registers : Type 0 where
  pub delivered : List ℕ
  pub received : List ℕ

abbrev pub registers_of : List ℕ → List ℕ → Registers
registers_of d e = record { delivered = d; received = e }

unfoldable pub with_readings : State → Registers → Registers
with_readings s r = registers_of (sets r.delivered 0 s.entered.delivered) (sets r.received 0 s.entered.received)

-- The registers after bytes: past the readings of a new month those of an old one stay.
unfoldable pub registers_after : SoFar → List ℕ → Registers → Registers
registers_after x [] r = r
registers_after x (b ∷ bs) r = registers_after (after_byte x b) bs (with_readings (after_byte x b).state r)

-- What the end of the input prints.
unfoldable pub ending : SoFar → List ℕ
ending x =
    cond (eqb (length x.line) 0) (at_end x.state)
    ((line_read x.line x.state).text ++ at_end (line_read x.line x.state).state)

-- The state at the end of the input: a last line that lacks its newline is read.
unfoldable pub state_at_end : SoFar → State
state_at_end x = cond (eqb (length x.line) 0) x.state (line_read x.line x.state).state

-- How many bytes are taken where a buffer for the texts has so much room: each as long as any one text still fits.
unfoldable pub taken_of : ℕ → SoFar → List ℕ → ℕ
taken_of room x [] = zero
taken_of room x (b ∷ bs) = cond (leb text_room room) (suc (taken_of (room - length (byte_text x b)) (after_byte x b) bs)) zero

-- The input as reads bring it, in pieces: what is printed for each, and at the end.
unfoldable pub joined : List (List ℕ) → List ℕ
joined [] = []
joined (p ∷ ps) = p ++ joined ps

unfoldable pub pieces_text : SoFar → List (List ℕ) → List ℕ
pieces_text x [] = ending x
pieces_text x (p ∷ ps) = printed x p ++ pieces_text (after x p) ps

-- Bytes in, text out: what is printed while they come and at their end is what `statement` prints for them, and where they are cut makes no
-- difference. By the contracts of the session, feeding it the pieces from the start and finishing writes `pieces_text nothing_read` of them.
pub record Streams : Type 0 where
  pub whole : (bytes : List ℕ) → printed nothing_read bytes ++ ending (after nothing_read bytes) ≡ statement_of bytes
  pub cut_text : (x : SoFar) (bytes more : List ℕ) → printed x (bytes ++ more) ≡ printed x bytes ++ printed (after x bytes) more
  pub cut_state : (x : SoFar) (bytes more : List ℕ) → after x (bytes ++ more) ≡ after (after x bytes) more
  pub pieces : (ps : List (List ℕ)) → pieces_text nothing_read ps ≡ statement_of (joined ps)
  -- After a fault nothing is printed, whatever follows: so the program need not read on.
  pub quiet : (x : SoFar) (bytes : List ℕ) → has_stopped x.state ≡ true → printed x bytes ++ ending (after x bytes) ≡ []
