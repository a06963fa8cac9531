-- The end of the input: the last line and the text after it.
use mathlib.Core.Path.{◌≡◌, refl, sym, ◌∙◌, ap}
use lib.Dec.{eqb}
use mathlib.Core.Bool.{Bool, true, false, false≢true}
use mathlib.Core.List.{List, ◌++◌}
use Prim.Native.Nat.{ℕ, ◌+◌, ◌-◌, ◌≤◌, ◌<◌}
use native.Mathlib.Omega.{arith}
use borrow.Author.Tests.{le-leb, lt-leb, eqb-true, eq-eqb, ne_eqb}
use lib.ListN.{length, length-append, length-take, length-drop, take, drop}
use borrow.Rule.Slice.PartMut.{put_mid}
use lib.Seq.{length-sets}
use Rattle.printing.specs.Writing.{fits, has_room, Wrote, Put}
use Rattle.lines.specs.Statement.{State, line_read, at_end}
use Rattle.progress.specs.Progressing.{state_of, registers_held, Reads, Marks, GoesBack}
use Rattle.progress.specs.declared.mark.Mark.{Mark}
use Rattle.progress.specs.declared.Progress.{Progress}
use Rattle.progress.proofs.Lines.{held_same}
use Rattle.progress.proofs.Marks.{back_again}
use Rattle.lines.specs.Feeding.{SoFar, ending, state_at_end, with_readings}
use Rattle.session.specs.declared.Session.{Session}
use Rattle.session.specs.Sessions.{kept_line, so_far_of, registers_of, registers_at_end, Finishes}
use Rattle.lines.proofs.Lengths.{text_fits, end_fits}
use Rattle.printing.proofs.Writing.{then, wrote_part}

-- Without room nothing is written.
pub finish_none : (x : Session) (out : List ℕ) → length out < 2048 → Finishes x out x 0 out
finish_none x out h =
    let no = lt-leb 2048 (length out) h in
    record { stands = refl; registers = rw no; bytes = rw no; end = rw no; fits = omega arith }

-- With room a text is written that fits.
wrote_all : {x y : Session} {out out_later : List ℕ} {j : ℕ} → 2048 ≤ length out → length (ending (so_far_of x)) ≤ 2048 → so_far_of y ≡ so_far_of x
    → registers_of y ≡ registers_at_end (so_far_of x) (registers_of x) → Wrote out 0 (ending (so_far_of x)) out_later j → Finishes x out y j out_later
wrote_all {out = out} h k same e w =
    let yes = le-leb 2048 (length out) h in
    let end = w.end in
    record { stands = same; registers = rw yes e; bytes = rw yes w.bytes; end = rw yes (omega arith); fits = omega arith }

room_here : (out : List ℕ) (i : ℕ) → i + 1024 ≤ length out → has_room out i ≡ true
unfolding fits
room_here out i h = le-leb (i + 1024) (length out) h

-- No byte is held.
module _ (x : SoFar) (none : length x.line ≡ 0) where
  whole_end : ending x ≡ at_end x.state
  unfolding ending
  whole_end = rw (eq-eqb _ _ none)

  whole_state : state_at_end x ≡ x.state
  unfolding state_at_end
  whole_state = rw (eq-eqb _ _ none)

pub finish_whole : (x : Session) (out out_later : List ℕ) (j : ℕ) → length (kept_line x.held) ≡ 0 → 2048 ≤ length out
    → Put out 0 (at_end (state_of x.progress)) out_later j → Finishes x out x j out_later
finish_whole x out out_later j none h p =
    let text = whole_end (so_far_of x) none in
    let room = room_here out 0 (omega arith) in
    wrote_all h (rw text (omega (arith, end_fits (state_of x.progress)))) refl (rw (whole_state (so_far_of x) none) (held_same x.progress))
    (rw text (record { bytes = rw room at p.bytes; end = rw room at p.end }))

-- A line is empty or has a byte.
pub empty : {b : Bool} (n : ℕ) → b ≡ eqb n 0 → b ≡ true → n ≡ 0
empty n e f = eqb-true n 0 (sym e ∙ f)

pub not_empty : {b : Bool} (n : ℕ) → b ≡ eqb n 0 → b ≡ false → n ≡ 0 → ⊥
not_empty n e f z = false≢true (sym f ∙ e ∙ eq-eqb n 0 z)

-- The bytes that are held are the last line.
module _ (x : SoFar) (some : length x.line ≡ 0 → ⊥) where
  line_end : ending x ≡ (line_read x.line x.state).text ++ at_end (line_read x.line x.state).state
  unfolding ending
  line_end = rw (ne_eqb _ _ some)

  line_state : state_at_end x ≡ (line_read x.line x.state).state
  unfolding state_at_end
  line_state = rw (ne_eqb _ _ some)

-- Texts are short.
pub read_short : (x y : Progress) (l out out_read : List ℕ) (i : ℕ) → 2048 ≤ length out → Reads x l out 0 y out_read i → (i ≤ 1024) × (length out_read ≡ length out)
read_short x y l out out_read i h made =
    let room = room_here out 0 (omega arith) in
    let first : Wrote out 0 (line_read l (state_of x)).text out_read i = record { bytes = rw room at made.text.bytes; end = rw room at made.text.end } in
    (omega (arith, text_fits l (state_of x), first.end), ap length first.bytes ∙ simp length-sets)

pub put_short : (s : State) (out out_later : List ℕ) (n : ℕ) → Put out 0 (at_end s) out_later n → n ≤ 1024
put_short s out out_later n p = by (has_room out 0) refl
  where
    by : (b : Bool) → has_room out 0 ≡ b → n ≤ 1024
    by true e = let k = rw e at p.end in omega (arith, end_fits s, k)
    by false e = let k = rw e at p.end in omega (arith, k)

pub finish_line : (x z : Session) (y : Progress) (k : Mark) (out out_read part : List ℕ) (i n : ℕ) → (length (kept_line x.held) ≡ 0 → ⊥)
    → 2048 ≤ length out → Marks x.progress k → Reads x.progress (kept_line x.held) out 0 y out_read i
    → Put (take (length out_read - i) (drop i out_read)) 0 (at_end (state_of y)) part n
    → kept_line z.held ≡ kept_line x.held → GoesBack y k z.progress
    → Finishes x out z (i + n) (put_mid i (length out_read - i) out_read part)
finish_line x z y k out out_read part i n some h mark made p same back =
    let line = kept_line x.held in
    let s = state_of x.progress in
    let last = line_end (so_far_of x) some in
    let room = room_here out 0 (omega arith) in
    let state : state_of y ≡ (line_read line s).state = rw room at made.state in
    let registers : registers_held y ≡ with_readings (line_read line s).state (registers_of x) = rw (← state) made.registers in
    let stands : state_of z.progress ≡ s = back_again x.progress y z.progress k line mark registers back in
    let first : Wrote out 0 (line_read line s).text out_read i = record { bytes = rw room at made.text.bytes; end = rw room at made.text.end } in
    let long : length out_read ≡ length out = ap length first.bytes ∙ simp length-sets in
    let short = text_fits line s in
    let left : length (take (length out_read - i) (drop i out_read)) ≡ length out_read - i = rw (length-take, length-drop) (omega arith) in
    let room_later = room_here (take (length out_read - i) (drop i out_read)) 0 (omega (arith, left, first.end)) in
    let front : Wrote (take (length out_read - i) (drop i out_read)) 0 (at_end (line_read line s).state) part n
    = rw (← state) (record { bytes = rw room_later at p.bytes; end = rw room_later at p.end }) in
    let second = wrote_part (omega (arith, first.end)) front in
    wrote_all h (rw (last, length-append) (omega (arith, end_fits (line_read line s).state))) (rw (same, stands))
    (rw (line_state (so_far_of x) some) (back.registers ∙ registers)) (rw last (then first second))
