-- What a session stands for, and what its functions promise.
use Rattle.std.specs.Prelude.{◌≡◌, cond, List, ℕ, ◌≤◌, leb, length, take}
use Rattle.std.proofs.lemmas.List.Edits.{sets}
use Rattle.printing.specs.Writing.{Wrote}
use Rattle.progress.specs.Progressing.{state_of, registers_held}
use Rattle.session.specs.declared.kept.Kept.{Kept}
use Rattle.session.specs.declared.Session.{Session}
use Rattle.lines.specs.Feeding.{SoFar, after, printed, ending, taken_of}
use Rattle.lines.specs.Feeding.{Registers, with_readings, registers_after, state_at_end}

-- The bytes that are kept of a line.
abbrev pub kept_line : Kept → List ℕ
kept_line x = take x.count x.bytes

-- The bytes that are held, and the state of the lines before them.
abbrev pub so_far_of : Session → SoFar
so_far_of x = record { line = kept_line x.held; state = state_of x.progress }

-- The two registers that the month's readings stand at the front of.
abbrev pub registers_of : Session → Registers
registers_of x = registers_held x.progress

-- A buffer for texts has room for two: the end of the input can print as many. With less nothing is taken, and nothing written at the end.
abbrev pub least_room : ℕ
least_room = 2048

-- The registers at the end of the input: past the readings they are unaltered.
abbrev pub registers_at_end : SoFar → Registers → Registers
registers_at_end x r = with_readings (state_at_end x) r

-- Feeding a session: how many bytes of the input it takes, what it stands for and what the registers hold then, and what it writes from the front
-- of the buffer for texts. Past the readings the registers are unaltered.
pub record Feeds (x : Session) (input : List ℕ) (out : List ℕ) (taken : ℕ) (y : Session) (written : ℕ) (out_later : List ℕ) : Type 0 where
  pub takes : taken ≡ cond (leb least_room (length out)) (taken_of (length out) (so_far_of x) input) 0
  pub stands : so_far_of y ≡ after (so_far_of x) (take taken input)
  pub registers : registers_of y ≡ registers_after (so_far_of x) (take taken input) (registers_of x)
  pub text : Wrote out 0 (printed (so_far_of x) (take taken input)) out_later written
  pub inside : taken ≤ length input
  pub fits : written ≤ length out

-- The end of the input: what the registers hold then, and what is written from the front of the buffer for texts. The bytes that are held stay, and so
-- does what was read.
pub record Finishes (x : Session) (out : List ℕ) (y : Session) (written : ℕ) (out_later : List ℕ) : Type 0 where
  pub stands : so_far_of y ≡ so_far_of x
  pub registers : registers_of y ≡ cond (leb least_room (length out)) (registers_at_end (so_far_of x) (registers_of x)) (registers_of x)
  pub bytes : out_later ≡ cond (leb least_room (length out)) (sets out 0 (ending (so_far_of x))) out
  pub end : written ≡ cond (leb least_room (length out)) (length (ending (so_far_of x))) 0
  pub fits : written ≤ length out
