-- Run lines at the front of an input, byte by byte: they print nothing, and are taken as any other line is.
use mathlib.Core.Path.{◌≡◌, refl, sym, ◌∙◌, ap}
use mathlib.Core.Bool.{Bool, true, false}
use mathlib.Core.List.{List, [], ◌∷◌, ◌++◌}
use Prim.Native.Nat.{ℕ, zero, suc, ◌+◌, ◌≤◌}
use native.Mathlib.Nat.{sub-zero}
use native.Mathlib.Omega.{arith}
use lib.ListN.{length, take, drop, length-drop}
use lib.Seq.{take-add, drop-drop}
use Rattle.std.proofs.lemmas.List.{nil_from_length}
use Rattle.text.specs.Text.{place_of}
use Rattle.lines.specs.Statement.{State, Outcome, counted, line_read}
use Rattle.progress.specs.declared.Progress.{Progress}
use Rattle.progress.specs.Progressing.{state_of, registers_held, line_at, is_run_expected, runs_bytes, runs_state, RunsRead}
use Rattle.progress.proofs.Lines.{held_same}
use Rattle.progress.proofs.RunLines.{expected_newline, run_read_lem, run_quiet, bytes_none, state_none, bytes_more, state_more}
use Rattle.lines.specs.Feeding.{kept_bytes, SoFar, after, printed, taken_of, Registers, with_readings, registers_after}
use Rattle.session.specs.declared.Session.{Session}
use Rattle.session.specs.Sessions.{kept_line, so_far_of, registers_of}
use Rattle.session.specs.Taking.{held, TakesBytes, TakesSome}
use Rattle.lines.proofs.Streams.{cut_text, cut_state, newline_state, newline_text}
use Rattle.lines.proofs.Lengths.{line_cut}
use Rattle.lines.proofs.Buffers.{readings_again, readings_over, cut_registers}
use Rattle.session.proofs.Taking.{bytes_some, bytes_within, bytes_place, newline_last}
use Rattle.session.proofs.Taking.{front_text, front_state, line_taken, line_text_lem}
use Rattle.session.proofs.Turns.{after_newline, printed_newline, line_registers}

-- One line is some bytes.
pub takes_line : {before later : SoFar} {r q : Registers} {input out out_later : List ℕ} {i taken j : ℕ}
    → TakesBytes before r input out i taken later q j out_later → TakesSome before r input out i taken later q j out_later
takes_line {before} {later} {input = input} w =
    record {
      some = λ h. rw w.takes (bytes_some input h);
      inside = rw w.takes (bytes_within input);
      stands = w.stands;
      registers = w.registers;
      text = w.text;
      short = rw w.takes (line_text_lem before input);
      rest = λ room h. rw (w.stands, w.takes) (line_taken room before input h);
    }

-- One run line.
module _ (l : List ℕ) (s : State) (h : is_run_expected l s ≡ true) where
  whole : take (place_of 10 l + 1) l ≡ line_at l ++ 10 ∷ []
  whole = newline_last l (expected_newline l s h)

  front : after (held [] s) (line_at l) ≡ held (take kept_bytes (line_at l)) s
  front = front_state (held [] s) l (omega arith)

  one_state : after (held [] s) (take (place_of 10 l + 1) l) ≡ held [] (line_read (line_at l) s).state
  one_state =
      rw (whole, after_newline (held [] s) (line_at l), front)
      (newline_state (held (take kept_bytes (line_at l)) s) 10 refl ∙ rw (line_cut (line_at l) s))

  one_text : printed (held [] s) (take (place_of 10 l + 1) l) ≡ []
  one_text =
      rw (whole, printed_newline (held [] s) (line_at l), front_text (held [] s) l, front)
      (newline_text (held (take kept_bytes (line_at l)) s) 10 refl ∙ rw (line_cut (line_at l) s) (run_quiet l s h))

  one_taken : (room : ℕ) → 1024 ≤ room
      → taken_of room (held [] s) l ≡ place_of 10 l + 1 + taken_of room (held [] (line_read (line_at l) s).state) (drop (place_of 10 l + 1) l)
  one_taken room k =
      let line = line_taken room (held [] s) l k in
      rw (bytes_place l (expected_newline l s h), one_text, one_state, sub-zero room) at line

  one_registers : (r : Registers) → r ≡ with_readings s r
      → registers_after (held [] s) (take (place_of 10 l + 1) l) r ≡ with_readings (line_read (line_at l) s).state r
  one_registers r e = rw one_state at (line_registers (held [] s) l r (expected_newline l s h) e)

  one_over : (r : Registers) → with_readings (line_read (line_at l) s).state (with_readings s r) ≡ with_readings (line_read (line_at l) s).state r
  unfolding counted
  one_over r =
      let read = run_read_lem l s h in
      readings_over s (line_read (line_at l) s).state _ _ r (ap (λ (x : Outcome). x.state.entered.delivered) read)
      (ap (λ (x : Outcome). x.state.entered.received) read)

-- All of them.
record Quiet (l : List ℕ) (s : State) (t : ℕ) (later : State) : Type 0 where
  inside : t ≤ length l
  state : after (held [] s) (take t l) ≡ held [] later
  text : printed (held [] s) (take t l) ≡ []
  rest : (room : ℕ) → 1024 ≤ room → taken_of room (held [] s) l ≡ t + taken_of room (held [] later) (drop t l)
  registers : (r : Registers) → r ≡ with_readings s r → registers_after (held [] s) (take t l) r ≡ with_readings later r
  over : (r : Registers) → with_readings later (with_readings s r) ≡ with_readings later r

quiet_none : (l : List ℕ) (s : State) → Quiet l s 0 s
unfolding after printed registers_after
quiet_none l s =
    record {
      inside = omega arith;
      state = refl;
      text = refl;
      rest = λ room h. omega arith;
      registers = λ r e. e;
      over = readings_again s;
    }

quiet_more : (l : List ℕ) (s : State) (t : ℕ) (later : State) → is_run_expected l s ≡ true
    → Quiet (drop (place_of 10 l + 1) l) (line_read (line_at l) s).state t later → Quiet l s (place_of 10 l + 1 + t) later
quiet_more l s t later h w =
    let k = place_of 10 l + 1 in
    let u = (line_read (line_at l) s).state in
    let both : take (place_of 10 l + 1 + t) l ≡ take (place_of 10 l + 1) l ++ take t (drop (place_of 10 l + 1) l)
    = take-add (place_of 10 l + 1) t l in
    record {
      inside = omega (arith, w.inside, length-drop (place_of 10 l + 1) l, expected_newline l s h);
      state = rw (both, cut_state (held [] s) (take k l) (take t (drop k l)), one_state l s h) w.state;
      text = rw (both, cut_text (held [] s) (take k l) (take t (drop k l)), one_text l s h, one_state l s h) w.text;
      rest = λ room r. let more = rw drop-drop at (w.rest room r) in omega (arith, one_taken l s h room r, more);
      registers = λ r e.
          rw (both, cut_registers (held [] s) (take k l) (take t (drop k l)) r, one_state l s h, one_registers l s h r e)
          (w.registers (with_readings u r) (sym (readings_again u r)) ∙ w.over r);
      over = λ r. sym (w.over (with_readings s r)) ∙ ap (with_readings later) (one_over l s h r) ∙ w.over r;
    }

quiet : (n : ℕ) (l : List ℕ) (s : State) → Quiet l s (runs_bytes n l s) (runs_state n l s)
unfolding runs_bytes runs_state
quiet zero l s = quiet_none l s
quiet (suc n) l s = by (is_run_expected l s) refl (quiet n (drop (place_of 10 l + 1) l) (line_read (line_at l) s).state)
  where
    by : (b : Bool) → is_run_expected l s ≡ b
        → Quiet (drop (place_of 10 l + 1) l) (line_read (line_at l) s).state
        (runs_bytes n (drop (place_of 10 l + 1) l) (line_read (line_at l) s).state)
        (runs_state n (drop (place_of 10 l + 1) l) (line_read (line_at l) s).state)
        → Quiet l s (runs_bytes (suc n) l s) (runs_state (suc n) l s)
    by true e w = rw (bytes_more n l s e, state_more n l s e) (quiet_more l s _ _ e w)
    by false e w = rw (bytes_none (suc n) l s e, state_none (suc n) l s e) (quiet_none l s)

module _ (x : Session) (later : Progress) (input out : List ℕ) (i taken : ℕ) (w : RunsRead x.progress input taken later) where
  as_quiet : Quiet input (state_of x.progress) taken (state_of later)
  as_quiet = rw (w.takes, w.state) (quiet (length input) input (state_of x.progress))

  -- Some were taken.
  pub takes_runs : length (kept_line x.held) ≡ 0 → (taken ≡ 0 → ⊥)
      → TakesSome (so_far_of x) (registers_of x) input out i taken (held (kept_line x.held) (state_of later)) (registers_held later) i out
  takes_runs empty h =
      let k = as_quiet in
      let text = k.text in
      rw (nil_from_length (kept_line x.held) empty)
      (record {
        some = λ _. omega (arith, h);
        inside = k.inside;
        stands = sym k.state;
        registers = w.registers ∙ sym (k.registers (registers_of x) (held_same x.progress));
        text = rw text (record { bytes = refl; end = omega arith });
        short = rw text (omega arith);
        rest = λ room h. rw (text, sub-zero room) (k.rest room h);
      })

  -- None were, so that the state is the same, and a line was taken.
  same_state : taken ≡ 0 → state_of later ≡ state_of x.progress
  unfolding after
  same_state h =
      let e : after (held [] (state_of x.progress)) (take 0 input) ≡ held [] (state_of later) = rw h at as_quiet.state in
      sym (ap (λ (y : SoFar). y.state) e)

  pub takes_none : {next : SoFar} {q : Registers} {out_later : List ℕ} {t j : ℕ} → taken ≡ 0
      → TakesBytes (held (kept_line x.held) (state_of later)) (registers_held later) input out i t next q j out_later
      → TakesSome (so_far_of x) (registers_of x) input out i t next q j out_later
  takes_none h made =
      let registers : registers_held later ≡ registers_of x
      = w.registers ∙ rw (same_state h) (sym (held_same x.progress)) in
      takes_line (rw (same_state h, registers) at made)
