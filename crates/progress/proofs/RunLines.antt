-- Run lines at the front of an input, over plain values. l is the input, n how many readings there are.
use mathlib.Core.Path.{◌≡◌, refl, sym, ◌∙◌, ap, subst}
use mathlib.Core.Bool.{Bool, true, false, cond, ◌&&◌}
use mathlib.Core.List.{List, [], ◌∷◌}
use Prim.Native.Nat.{ℕ, zero, suc, ◌+◌, ◌-◌, ◌≤◌, ◌<◌}
use native.Mathlib.Omega.{arith}
use borrow.Author.Tests.{leb-true, le-leb, lt-leb, eqb-true, eqb-false, eq-eqb, ne_eqb}
use lib.Dec.{eqb, leb}
use lib.ListN.{length, get_or, drop, length-drop}
use Rattle.std.specs.Prelude.{Option, Some, None, is_some, OnSome, IfNone}
use Rattle.std.proofs.lemmas.List.{nil_from_length}
use Rattle.text.specs.Text.{place_of}
use Rattle.text.specs.Splitting.{Whole, Split}
use Rattle.grammar.specs.Grammar.{run_line, bill_line}
use Rattle.progress.specs.declared.readings.Run.{Run}
use Rattle.progress.specs.declared.readings.Readings.{Readings}
use Rattle.progress.specs.declared.Progress.{Progress}
use Rattle.progress.specs.declared.Text.TheVariants.{Nothing}
use Rattle.lines.specs.Statement.{State, Outcome, outcome, fault, counted, with_run, run_read, run_or_bill_read, begun, month_end, line_read}
use Rattle.lines.specs.Feeding.{Registers, with_readings}
use Rattle.progress.specs.Expected.{number_of}
use Rattle.progress.specs.Readings.{delivered_of, Adds, Refuses}
use Rattle.progress.specs.Progressing.{state_of, registers_held, line_at, is_run, is_run_expected, runs_bytes, runs_state, RunsRead}
use Rattle.progress.specs.Ending.{run_from, run_of, NoRun, FirstRun, Steps, Changes}
use Rattle.text.proofs.Laws.{place_within}
use Rattle.progress.proofs.Lines.{held_same, faulty}
use Rattle.lines.proofs.Buffers.{readings_over}
use Rattle.lines.proofs.Laws.{later_run, later_no, later_bill, run_no, run_yes, expected_later}

-- The progress with other readings.
abbrev pub reading : Progress → Readings → Progress
reading x m =
    record {
      lines = x.lines;
      expected = x.expected;
      opening = x.opening;
      account = x.account;
      month = x.month;
      critical = x.critical;
      readings = m;
    }

-- A run, and one that doesn't fit.
pub run_added : (x : Progress) (run : Run) (m : Readings) → Adds x.readings run m
    → Steps x (run_read run.count run.delivered run.received (state_of x)) (Some Nothing) (reading x m)
unfolding with_readings
run_added x run m w =
    record {
      outcome =
          sym (run_yes run.count run.delivered run.received (state_of x) w.fits
          ∙ rw (← w.delivered, ← w.received));
      registers = w.registers;
    }

pub run_refused : (x : Progress) (run : Run) (m : Readings) → Refuses x.readings run m
    → Steps x (run_read run.count run.delivered run.received (state_of x)) None (reading x m)
run_refused x run m w =
    let step = run_read run.count run.delivered run.received (state_of x) in
    subst (λ (k : Readings). Steps x step None (reading x k)) (sym w.same)
    (faulty x step (run_no run.count run.delivered run.received (state_of x) w.full))

-- A line that is a readable run line, or isn't.
pub run_is : (l v : List ℕ) → v ≡ run_line l → (length v ≡ 0 → ⊥) → Some (run_from v) ≡ run_of l
unfolding run_of
run_is l v e h = rw (← e, ne_eqb (length v) 0 h)

pub run_not : (l : List ℕ) → [] ≡ run_line l → None ≡ run_of l
unfolding run_of
run_not l e = rw (← e)

-- What that says of its numbers.
pub some_numbers : (l : List ℕ) (run : Run) → Some run ≡ run_of l → (length (run_line l) ≡ 0 → ⊥) × (run ≡ run_from (run_line l))
unfolding run_of
some_numbers l run h = by (eqb (length (run_line l)) 0) refl h
  where
    by : (b : Bool) → eqb (length (run_line l)) 0 ≡ b → Some run ≡ cond b None (Some (run_from (run_line l)))
        → (length (run_line l) ≡ 0 → ⊥) × (run ≡ run_from (run_line l))
    by true p e = absurd (cc)
    by false p e = (eqb-false (length (run_line l)) 0 p, cc)

pub none_numbers : (l : List ℕ) → None ≡ run_of l → [] ≡ run_line l
unfolding run_of
none_numbers l h = by (eqb (length (run_line l)) 0) refl h
  where
    by : (b : Bool) → eqb (length (run_line l)) 0 ≡ b → None ≡ cond b None (Some (run_from (run_line l))) → [] ≡ run_line l
    by true p e = sym (nil_from_length (run_line l) (eqb-true (length (run_line l)) 0 p))
    by false p e = absurd (cc)

-- A line after the critical line.
module _ (l : List ℕ) (s : State) where
  pub later_some : (run : Run) → Some run ≡ run_of l → run_or_bill_read l s ≡ run_read run.count run.delivered run.received s
  later_some run h =
      let w = some_numbers l run h in
      later_run l s w.0
      ∙ ap (λ (y : Run). run_read y.count y.delivered y.received s) (sym w.1)

  module _ (h : None ≡ run_of l) where
    pub later_none : [] ≡ bill_line l → run_or_bill_read l s ≡ fault s
    later_none k = later_no l s (none_numbers l h) k

    pub later_month : (n : ℕ) → n ∷ [] ≡ bill_line l → run_or_bill_read l s ≡ outcome (month_end s).text (begun n (month_end s).state)
    later_month n k = later_bill l s n (none_numbers l h) k

-- The run line at the front of an input.
pub first_absent : (l : List ℕ) → Whole 10 l → NoRun l
unfolding is_run
first_absent l h n = rw (eq-eqb (place_of 10 l) (length l) h)

pub first_not : {l line rest : List ℕ} → Split 10 l line rest → None ≡ run_of line → NoRun l
unfolding is_run
first_not {l = l} s e n =
    let none = none_numbers (line_at l) (e ∙ ap run_of s.before) in
    rw (ne_eqb (place_of 10 l) (length l) (λ h. omega (arith, s.within)), eq-eqb (length (run_line (line_at l))) 0 (ap length (sym none)))

-- Where there is one, it is taken if it fits.
module _ (l : List ℕ) (first : Run) (rest : List ℕ) (w : FirstRun l first rest) (n : ℕ) where
  numbers : eqb (length (run_line (line_at l))) 0 ≡ false
  numbers = ne_eqb (length (run_line (line_at l))) 0 (some_numbers (line_at l) first w.reads).0

  newline : eqb (place_of 10 l) (length l) ≡ false
  newline = let h = w.newline in ne_eqb (place_of 10 l) (length l) (λ e. omega arith)

  count : first.count ≡ get_or (run_line (line_at l)) 0 0
  count = ap (λ (y : Run). y.count) (some_numbers (line_at l) first w.reads).1

  pub run_past : 2976 < n + first.count → is_run l n ≡ false
  unfolding is_run
  run_past h = rw (newline, numbers) (lt-leb (n + get_or (run_line (line_at l)) 0 0) 2976 (omega (arith, count)))

  pub run_there : n + first.count ≤ 2976 → is_run l n ≡ true
  unfolding is_run
  run_there h = rw (newline, numbers) (le-leb (n + get_or (run_line (line_at l)) 0 0) 2976 (omega (arith, count)))

-- What holds of a run line that can be taken.
pub record Fits (l : List ℕ) (n : ℕ) : Type 0 where
  pub newline : place_of 10 l < length l
  pub read : length (run_line (line_at l)) ≡ 0 → ⊥
  pub fits : n + get_or (run_line (line_at l)) 0 0 ≤ 2976

pub run_fits : (l : List ℕ) (n : ℕ) → is_run l n ≡ true → Fits l n
unfolding is_run
run_fits l n h = by (eqb (place_of 10 l) (length l)) (eqb (length (run_line (line_at l))) 0) refl refl h
  where
    by : (a b : Bool) → eqb (place_of 10 l) (length l) ≡ a → eqb (length (run_line (line_at l))) 0 ≡ b
        → cond a false (cond b false (leb (n + get_or (run_line (line_at l)) 0 0) 2976)) ≡ true → Fits l n
    by true b p q e = let z : ◌≡◌ {A = ℕ} 0 1 = cc in absurd (omega arith)
    by false true p q e = let z : ◌≡◌ {A = ℕ} 0 1 = cc in absurd (omega arith)
    by false false p q e =
        record {
          newline = omega (arith, place_within 10 l, eqb-false (place_of 10 l) (length l) p);
          read = eqb-false (length (run_line (line_at l))) 0 q;
          fits = leb-true (n + get_or (run_line (line_at l)) 0 0) 2976 e;
        }

-- The same where a run is expected.
expected_run : (l : List ℕ) (s : State) → is_run_expected l s ≡ true → (s.expected ≡ 16) × Fits l (length s.entered.delivered)
unfolding is_run_expected
expected_run l s h = by (eqb s.expected 16) (is_run l (length s.entered.delivered)) refl refl h
  where
    by : (a b : Bool) → eqb s.expected 16 ≡ a → is_run l (length s.entered.delivered) ≡ b → (a && b) ≡ true
        → (s.expected ≡ 16) × Fits l (length s.entered.delivered)
    by true true p q e = (eqb-true s.expected 16 p, run_fits l (length s.entered.delivered) q)
    by true false p q e = let z : ◌≡◌ {A = ℕ} 0 1 = cc in absurd (omega arith)
    by false b p q e = let z : ◌≡◌ {A = ℕ} 0 1 = cc in absurd (omega arith)

pub is-expected : (l : List ℕ) (s : State) (b : Bool) → s.expected ≡ 16 → is_run l (length s.entered.delivered) ≡ b → is_run_expected l s ≡ b
unfolding is_run_expected
is-expected l s b h e = rw (eq-eqb s.expected 16 h, e)

pub not-expected : (l : List ℕ) (s : State) → (s.expected ≡ 16 → ⊥) → is_run_expected l s ≡ false
unfolding is_run_expected
not-expected l s h = rw (ne_eqb s.expected 16 h)

pub expected_newline : (l : List ℕ) (s : State) → is_run_expected l s ≡ true → place_of 10 l < length l
expected_newline l s h = (expected_run l s h).1.newline

-- Such a line prints nothing.
pub run_read_lem : (l : List ℕ) (s : State) → is_run_expected l s ≡ true
    → line_read (line_at l) s
    ≡ outcome [] (with_run (get_or (run_line (line_at l)) 0 0) (get_or (run_line (line_at l)) 1 0) (get_or (run_line (line_at l)) 2 0) (counted s))
unfolding line_read counted
run_read_lem l s h =
    let f = expected_run l s h in
    let expected : s.expected ≡ 16 = f.0 in
    expected_later (line_at l) (counted s) (omega arith) (λ e. omega arith) (λ e. omega arith) expected
    ∙ later_run (line_at l) (counted s) f.1.read
    ∙ run_yes (get_or (run_line (line_at l)) 0 0) (get_or (run_line (line_at l)) 1 0) (get_or (run_line (line_at l)) 2 0) (counted s) f.1.fits

pub run_quiet : (l : List ℕ) (s : State) → is_run_expected l s ≡ true → (line_read (line_at l) s).text ≡ []
run_quiet l s h = ap (λ (x : Outcome). x.text) (run_read_lem l s h)

-- One line more, or none.
module _ (n : ℕ) (l : List ℕ) (s : State) where
  pub bytes_more : is_run_expected l s ≡ true
      → runs_bytes (suc n) l s ≡ place_of 10 l + 1 + runs_bytes n (drop (place_of 10 l + 1) l) (line_read (line_at l) s).state
  unfolding runs_bytes
  bytes_more h = rw h

  pub state_more : is_run_expected l s ≡ true → runs_state (suc n) l s ≡ runs_state n (drop (place_of 10 l + 1) l) (line_read (line_at l) s).state
  unfolding runs_state
  state_more h = rw h

pub bytes_none : (n : ℕ) (l : List ℕ) (s : State) → is_run_expected l s ≡ false → runs_bytes n l s ≡ 0
unfolding runs_bytes
bytes_none zero l s h = refl
bytes_none (suc n) l s h = rw h

pub state_none : (n : ℕ) (l : List ℕ) (s : State) → is_run_expected l s ≡ false → runs_state n l s ≡ s
unfolding runs_state
state_none zero l s h = refl
state_none (suc n) l s h = rw h

-- Where the bound is as long as the input it makes no difference.
record Same (n m : ℕ) (l : List ℕ) (s : State) : Type 0 where
  bytes : runs_bytes n l s ≡ runs_bytes m l s
  state : runs_state n l s ≡ runs_state m l s

same_none : (n m : ℕ) (l : List ℕ) (s : State) → is_run_expected l s ≡ false → Same n m l s
same_none n m l s h =
    record {
      bytes = bytes_none n l s h ∙ sym (bytes_none m l s h);
      state = state_none n l s h ∙ sym (state_none m l s h);
    }

none_left : (l : List ℕ) (s : State) → length l ≤ 0 → is_run_expected l s ≡ false
none_left l s h = by (is_run_expected l s) refl
  where
    by : (b : Bool) → is_run_expected l s ≡ b → b ≡ false
    by true e = absurd (omega (arith, expected_newline l s e))
    by false e = refl

same_runs : (n m : ℕ) (l : List ℕ) (s : State) → length l ≤ n → length l ≤ m → Same n m l s
same_runs zero m l s h k = same_none zero m l s (none_left l s h)
same_runs (suc n) zero l s h k = same_none (suc n) zero l s (none_left l s k)
same_runs (suc n) (suc m) l s h k =
    by (is_run_expected l s) refl (λ p q. same_runs n m (drop (place_of 10 l + 1) l) (line_read (line_at l) s).state p q)
  where
    by : (b : Bool) → is_run_expected l s ≡ b
        → (length (drop (place_of 10 l + 1) l) ≤ n → length (drop (place_of 10 l + 1) l) ≤ m
        → Same n m (drop (place_of 10 l + 1) l) (line_read (line_at l) s).state)
        → Same (suc n) (suc m) l s
    by false e more = same_none (suc n) (suc m) l s e
    by true e more =
        let less = length-drop (place_of 10 l + 1) l in
        let w = more (omega (arith, less, expected_newline l s e)) (omega (arith, less, expected_newline l s e)) in
        record {
          bytes = bytes_more n l s e ∙ ap (λ (b : ℕ). place_of 10 l + 1 + b) w.bytes ∙ sym (bytes_more m l s e);
          state = state_more n l s e ∙ w.state ∙ sym (state_more m l s e);
        }

-- A rest of the input is left, s is the state then, and q the registers.
pub record Running (before : State) (r : Registers) (input rest : List ℕ) (s : State) (q : Registers) : Type 0 where
  pub within : length rest ≤ length input
  pub bytes : runs_bytes (length input) input before + length rest ≡ length input + runs_bytes (length rest) rest s
  pub state : runs_state (length input) input before ≡ runs_state (length rest) rest s
  pub registers : q ≡ with_readings s r

-- What is before it was taken: as in `RunsRead`.
pub record Ran (before : State) (r : Registers) (input rest : List ℕ) (s : State) (q : Registers) : Type 0 where
  pub takes : length input - length rest ≡ runs_bytes (length input) input before
  pub state : s ≡ runs_state (length input) input before
  pub registers : q ≡ with_readings s r

module _ (before s : State) (r q : Registers) (input rest : List ℕ) (w : Running before r input rest s q) where
  pub running_none : is_run_expected rest s ≡ false → Ran before r input rest s q
  running_none h = record {
    takes = omega (arith, w.within, w.bytes, bytes_none (length rest) rest s h);
    state = sym (w.state ∙ state_none (length rest) rest s h);
    registers = w.registers;
  }

  pub running_more : (t : State) (p : Registers) (later : List ℕ) → is_run_expected rest s ≡ true → later ≡ drop (place_of 10 rest + 1) rest
      → t ≡ (line_read (line_at rest) s).state → p ≡ with_readings t r → Running before r input later t p
  running_more t p later h k f v =
      let newline = expected_newline rest s h in
      let long : length later ≡ length rest - (place_of 10 rest + 1) = ap length k ∙ length-drop (place_of 10 rest + 1) rest in
      let less : length rest ≡ suc (length rest - 1) = omega (arith, newline) in
      let same = same_runs (length rest - 1) (length later) later t (omega (arith, long)) (omega arith) in
      let some : runs_bytes (length rest) rest s ≡ place_of 10 rest + 1 + runs_bytes (length later) later t
      = ap (λ (n : ℕ). runs_bytes n rest s) less ∙ bytes_more (length rest - 1) rest s h
      ∙ rw (← k, ← f) (ap (λ (b : ℕ). place_of 10 rest + 1 + b) same.bytes) in
      record {
        within = omega (arith, long, w.within);
        bytes = omega (arith, w.bytes, some, long, newline);
        state = w.state ∙ ap (λ (n : ℕ). runs_state n rest s) less ∙ state_more (length rest - 1) rest s h ∙ rw (← k, ← f) same.state;
        registers = v;
      }

-- Before the first turn all is left.
pub running_from : (x : Progress) (input : List ℕ) → Running (state_of x) (registers_held x) input input (state_of x) (registers_held x)
running_from x input = record { within = omega arith; bytes = omega arith; state = refl; registers = held_same x }

-- Whether a run was stored.
pub added : (o : Option (Unit {0})) (P : Type 0) → is_some o ≡ true → OnSome o P → P
added None P h w = absurd (cc)
added (Some x) P h w = w

pub refused : (o : Option (Unit {0})) (P : Type 0) → is_some o ≡ false → IfNone o P → P
refused None P h w = w
refused (Some x) P h w = absurd (cc)

-- No run is expected: none is taken.
pub ran_other : (x : Progress) (input : List ℕ) → (number_of x.expected ≡ 16 → ⊥) → RunsRead x input 0 x
ran_other x input h =
    let e = not-expected input (state_of x) h in
    record {
      takes = sym (bytes_none (length input) input (state_of x) e);
      state = sym (state_none (length input) input (state_of x) e);
      registers = held_same x;
    }

-- The registers after a run and its count: r is what they were at first.
held_after : (r : Registers) (y z : Progress) (run : Run) (m : Readings) → Adds y.readings run m → Changes (reading y m) counted z
    → registers_held y ≡ with_readings (state_of y) r → registers_held z ≡ with_readings (state_of z) r
unfolding with_readings counted
held_after r y z run m a c w =
    c.registers ∙ a.registers ∙ ap (with_readings (state_of (reading y m))) w
    ∙ readings_over (state_of y) (state_of (reading y m)) _ _ r a.delivered a.received
    ∙ sym (ap (λ (s : State). with_readings s r) c.state)

-- x is the progress before the loop and y that in it.
module _ (x y : Progress) (input rest : List ℕ) (w : Running (state_of x) (registers_held x) input rest (state_of y) (registers_held y)) where
  ran : is_run_expected rest (state_of y) ≡ false → RunsRead x input (length input - length rest) y
  ran h =
      let e = running_none (state_of x) (state_of y) (registers_held x) (registers_held y) input rest w h in
      record { takes = e.takes; state = e.state; registers = e.registers }

  module _ (h : number_of y.expected ≡ 16) where
    pub ran_none : NoRun rest → RunsRead x input (length input - length rest) y
    ran_none e = ran (is-expected rest (state_of y) false h (e (length (delivered_of y.readings))))

    module _ (run : Run) (behind : List ℕ) (first : FirstRun rest run behind) where
      pub ran_full : (m : Readings) → Refuses y.readings run m → RunsRead x input (length input - length rest) (reading y m)
      ran_full m r =
          let full = ran (is-expected rest (state_of y) false h (run_past rest run behind first (length (delivered_of y.readings)) r.full)) in
          subst (λ (k : Readings). RunsRead x input (length input - length rest) (reading y k)) (sym r.same) full

      -- A run is stored, and the line is counted.
      pub turn : (m : Readings) (z : Progress) → Adds y.readings run m → Changes (reading y m) counted z
          → Running (state_of x) (registers_held x) input behind (state_of z) (registers_held z)
      unfolding counted
      turn m z a c =
          let n = length (delivered_of y.readings) in
          let there = is-expected rest (state_of y) true h (run_there rest run behind first n a.fits) in
          let reads = (some_numbers (line_at rest) run first.reads).1 in
          let read = ap (λ (o : Outcome). o.state) (run_read_lem rest (state_of y) there) in
          running_more (state_of x) (state_of y) (registers_held x) (registers_held y) input rest w (state_of z) (registers_held z) behind there
          first.behind
          (c.state ∙ rw (a.delivered, a.received, reads) (sym read))
          (held_after (registers_held x) y z run m a c w.registers)

pub still_run : (y z : Progress) (m : Readings) → number_of y.expected ≡ 16 → Changes (reading y m) counted z → number_of z.expected ≡ 16
unfolding counted
still_run y z m h c = ap (λ (s : State). s.expected) c.state ∙ h
