-- One line of the input: what is held and what was read.
use mathlib.Core.Path.{◌≡◌, refl, sym, ◌∙◌, ap}
use mathlib.Core.Bool.{Bool, true, false, cond}
use mathlib.Core.List.{List, [], ◌∷◌, ◌++◌, append-nil}
use Prim.Native.Nat.{ℕ, zero, suc, ◌+◌, ◌<◌}
use native.Mathlib.Omega.{arith}
use lib.Dec.{eqb}
use lib.ListN.{length, take}
use lib.Seq.{take-length, length-take-le}
use Rattle.text.specs.Text.{place_of}
use Rattle.text.specs.Splitting.{Whole}
use Rattle.printing.specs.Writing.{has_room}
use Rattle.lines.specs.Statement.{line_read}
use Rattle.progress.specs.declared.Progress.{Progress}
use Rattle.progress.specs.Progressing.{state_of, registers_held, Reads}
use Rattle.progress.proofs.Lines.{held_same}
use Rattle.lines.specs.Feeding.{SoFar, after_byte, byte_text, after, printed, Registers, with_readings, registers_after}
use Rattle.session.specs.declared.Session.{Session}
use Rattle.session.specs.Sessions.{kept_line, so_far_of, registers_of}
use Rattle.session.specs.Taking.{kept_of, Keeps, held, TakesBytes, TakesLine}
use Rattle.lines.proofs.Buffers.{cut_registers}
use Rattle.lines.proofs.Streams.{cut_text, cut_state, newline_state, newline_text, other_state}
use Rattle.session.proofs.Taking.{bytes_all, bytes_place, newline_last, front_text, front_state}

-- The newline.
pub after_newline : (x : SoFar) (front : List ℕ) → after x (front ++ 10 ∷ []) ≡ after_byte (after x front) 10
unfolding after
after_newline x front = cut_state x front (10 ∷ [])

pub printed_newline : (x : SoFar) (front : List ℕ) → printed x (front ++ 10 ∷ []) ≡ printed x front ++ byte_text (after x front) 10
unfolding printed
printed_newline x front = cut_text x front (10 ∷ []) ∙ rw append-nil

-- Of the registers bytes before a newline change nothing, and the newline stores the readings that there are then.
front_registers : (x : SoFar) (l : List ℕ) (r : Registers) → r ≡ with_readings x.state r → registers_after x (take (place_of 10 l) l) r ≡ r
unfolding place_of registers_after
front_registers x [] r h = refl
front_registers x (b ∷ l) r h = by (eqb b 10) refl (front_registers (after_byte x b) l r)
  where
    by : (t : Bool) → eqb b 10 ≡ t
        → (r ≡ with_readings (after_byte x b).state r → registers_after (after_byte x b) (take (place_of 10 l) l) r ≡ r)
        → registers_after x (take (cond t zero (suc (place_of 10 l))) (b ∷ l)) r ≡ r
    by true e more = refl
    by false e more =
        let same : r ≡ with_readings (after_byte x b).state r = rw (other_state x b e) h in
        ap (registers_after (after_byte x b) (take (place_of 10 l) l)) (sym same) ∙ more same

pub line_registers : (x : SoFar) (l : List ℕ) (r : Registers) → place_of 10 l < length l → r ≡ with_readings x.state r
    → registers_after x (take (place_of 10 l + 1) l) r ≡ with_readings (after x (take (place_of 10 l + 1) l)).state r
unfolding registers_after
line_registers x l r h e =
    let front = take (place_of 10 l) l in
    rw (newline_last l h, after_newline x front)
    (cut_registers x front (10 ∷ []) r ∙ ap (with_readings (after_byte (after x front) 10).state) (front_registers x l r e))

-- The bytes before the newline are held behind those that were.
module _ (x y : Session) (input out front : List ℕ) (i : ℕ) (p : front ≡ take (place_of 10 input) input) (k : Keeps x front y) where
  state : after (so_far_of x) front ≡ held (kept_of (kept_line x.held) front) (state_of x.progress)
  state = rw p (front_state (so_far_of x) input k.room)

  none : printed (so_far_of x) front ≡ []
  none = rw p (front_text (so_far_of x) input)

  -- The newline: the line is read, and nothing is held any more.
  pub line_ended : (later : Progress) (line out_later : List ℕ) (j : ℕ) → place_of 10 input < length input
      → has_room out i ≡ true → Reads y.progress (kept_line y.held) out i later out_later j → line ≡ []
      → TakesBytes (so_far_of x) (registers_of x) input out i (length front + 1) (held line (state_of later)) (registers_held later) j out_later
  line_ended later line out_later j short room reads empty =
      let w = rw (k.line, k.progress) at reads in
      let whole = held (kept_of (kept_line x.held) front) (state_of x.progress) in
      let long : length front ≡ place_of 10 input = ap length p ∙ length-take-le (place_of 10 input) input (omega (arith, short)) in
      let all : take (length front + 1) input ≡ front ++ 10 ∷ [] = rw (long, p) (newline_last input short) in
      let text : printed (so_far_of x) (take (length front + 1) input) ≡ (line_read whole.line whole.state).text
      = rw (all, printed_newline (so_far_of x) front, none, state) (newline_text whole 10 refl) in
      let read : state_of later ≡ (line_read whole.line whole.state).state = rw room at w.state in
      let after_is : after (so_far_of x) (take (length front + 1) input) ≡ held [] (state_of later)
      = rw (all, after_newline (so_far_of x) front, state) (newline_state whole 10 refl ∙ ap (held []) (sym read)) in
      let registers : registers_after (so_far_of x) (take (length front + 1) input) (registers_of x)
      ≡ with_readings (after (so_far_of x) (take (length front + 1) input)).state (registers_of x)
      = rw long (line_registers (so_far_of x) input (registers_of x) short (held_same x.progress)) in
      record {
        takes = ap (λ (m : ℕ). m + 1) long ∙ sym (bytes_place input short);
        stands = rw empty (sym after_is);
        registers = w.registers ∙ sym (rw after_is at registers);
        text = rw text (record { bytes = rw room at w.text.bytes; end = rw room at w.text.end });
      }

-- There is no newline: all bytes are held.
pub all_held : (x y : Session) (input out : List ℕ) (i : ℕ) → Whole 10 input → Keeps x input y → TakesLine x input out i (length input) y i out
all_held x y input out i p k =
    let all : input ≡ take (place_of 10 input) input = rw p (sym (take-length input)) in
    let registers : registers_after (so_far_of x) (take (length input) input) (registers_of x) ≡ registers_of x
    = rw (← p) (front_registers (so_far_of x) input (registers_of x) (held_same x.progress)) in
    record {
      takes = sym (bytes_all input p);
      stands = sym (rw (take-length input, k.line, k.progress) (state x y input out input i all k));
      registers = sym (rw k.progress registers);
      text = rw (take-length input, none x y input out input i all k) (record { bytes = refl; end = omega arith });
    }
