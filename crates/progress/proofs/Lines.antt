-- What the progress promises of a line, over plain values.
use mathlib.Core.Path.{◌≡◌, refl, sym, ◌∙◌, ap, subst}
use mathlib.Core.Bool.{Bool, true, false, cond}
use mathlib.Core.List.{List}
use mathlib.Core.Logic.{◌⊎◌, ⊎_elim}
use Prim.Native.Nat.{ℕ, ◌+◌, ◌≤◌, min}
use native.Mathlib.Omega.{arith}
use borrow.Author.Tests.{ltb-true, ltb-false}
use lib.Dec.{ltb}
use Rattle.std.specs.Prelude.{Option, Some, None}
use Rattle.account.specs.Account.{PlainReply, BillingReply}
use Rattle.printing.specs.Printing.{bill_text, open_text, line_text}
use Rattle.printing.specs.Writing.{has_room, Put}
use Rattle.lines.specs.Statement.{State, state, Outcome, outcome, begun, fault, opened, account_reply}
use Rattle.lines.specs.Statement.{month_reply, month_end, counted, expected_read, line_read, at_end, next_number}
use Rattle.lines.specs.Feeding.{with_readings}
use Rattle.lines.proofs.Buffers.{readings_same}
use Rattle.lines.proofs.Laws.{end_absent}
use Rattle.progress.specs.declared.expected.OpeningLine.{OpeningLine}
use Rattle.progress.specs.declared.expected.Expected.{Expected}
use Rattle.progress.specs.declared.expected.Expected.TheVariants.{Opening, Critical}
use Rattle.progress.specs.Expected.{line_place, number_of}
use Rattle.progress.proofs.Expecting.{line_below}
use Rattle.progress.specs.declared.Progress.{Progress}
use Rattle.progress.specs.declared.Text.{Text}
use Rattle.progress.specs.Progressing.{state_of, registers_held, Reads}
use Rattle.progress.specs.Ending.{text_of, Steps, Tells, Changes}

-- A sum that stays at the largest number.
pub capped : (n m r : ℕ) → n ≤ m → r ≡ min (n + 1) m → r ≡ cond (ltb n m) (n + 1) n
capped n m r h e = by (ltb n m) refl
  where
    by : (b : Bool) → ltb n m ≡ b → r ≡ cond b (n + 1) n
    by true p = let k = ltb-true n m p in omega arith
    by false p = let k = ltb-false n m p in omega arith

-- The readings stand at the front of the registers.
pub held_same : (x : Progress) → registers_held x ≡ with_readings (state_of x) (registers_held x)
held_same x = readings_same (state_of x) x.readings.count x.readings.delivered x.readings.received refl refl

-- A line that is at fault; one that isn't, and leaves the registers alone; and a step that is the same as another.
pub faulty : (x : Progress) (step : Outcome) → step ≡ fault (state_of x) → Steps x step None x
faulty x step e = record { outcome = sym e; registers = held_same x }

pub steps : (x y : Progress) (step : Outcome) (t : Text) → step ≡ outcome (text_of t) (state_of y) → registers_held y ≡ registers_held x
    → Steps x step (Some t) y
steps x y step t e k =
    record { outcome = sym e; registers = held_same y ∙ ap (with_readings (state_of y)) k }

pub told : (x y : Progress) (step : Outcome) (t : Text) → Tells x step t y → Steps x step (Some t) y
told x y step t w = steps x y step t (sym w.outcome) w.registers

pub steps_by : (x y : Progress) (step other : Outcome) (t : Option Text) → other ≡ step → Steps x step t y → Steps x other t y
steps_by x y step other t e w = record { outcome = w.outcome ∙ sym e; registers = w.registers }

-- The account is opened, and a month that is complete.
pub account_opens : (s : State) (r : PlainReply) → r ≡ account_reply s.account s.values
    → opened s ≡ outcome (open_text r.number) (state s.lines s.expected s.values r.account s.entered)
unfolding opened
account_opens s r e = ap (λ (q : PlainReply). outcome (open_text q.number) (state s.lines s.expected s.values q.account s.entered)) (sym e)

pub month_ends : (s : State) (r : BillingReply) → r ≡ month_reply s
    → month_end s ≡ outcome (bill_text s.entered.month r.number r.bill) (state s.lines s.expected s.values r.account s.entered)
unfolding month_end
month_ends s r e =
    ap (λ (q : BillingReply). outcome (bill_text s.entered.month q.number q.bill) (state s.lines s.expected s.values q.account s.entered)) (sym e)

-- The next month begins after the one before is printed.
pub month_begins : (x y z : Progress) (step : Outcome) (m : ℕ) (t : Text)
    → step ≡ outcome (month_end (state_of x)).text (begun m (month_end (state_of x)).state)
    → Tells x (month_end (state_of x)) t y → Changes y (begun m) z → Steps x step (Some t) z
month_begins x y z step m t e w b =
    steps x z step t
    (e ∙ ap (λ (o : Outcome). outcome o.text (begun m o.state)) (sym w.outcome) ∙ ap (outcome (text_of t)) (sym b.state))
    (b.registers ∙ w.registers)

-- A fault stops it.
pub stops : (x y z : Progress) (step : Outcome) (t : Text) → Steps x step None y → Tells y (fault (state_of y)) t z → Steps x step (Some t) z
unfolding fault with_readings
stops x y z step t w b =
    record {
      outcome = b.outcome ∙ w.outcome;
      registers = b.registers ∙ w.registers ∙ sym (ap (λ (o : Outcome). with_readings o.state (registers_held x)) b.outcome);
    }

-- A line is counted and read where there is room.
module _ (o : List ℕ) (i : ℕ) (l : List ℕ) (x : Progress) where
  pub reads_none : has_room o i ≡ false → Reads x l o i x o i
  reads_none h = record { state = sym (rw h); registers = held_same x; text = record { bytes = sym (rw h); end = sym (rw h) } }

  pub reads_some : (y z : Progress) (t : Text) (p : List ℕ) (j : ℕ) → has_room o i ≡ true → Changes x counted y
      → Steps y (expected_read l (state_of y)) (Some t) z → Put o i (text_of t) p j → Reads x l o i z p j
  unfolding line_read
  reads_some y z t p j h c w b =
      let same : expected_read l (state_of y) ≡ expected_read l (counted (state_of x)) = ap (expected_read l) c.state in
      let step = w.outcome ∙ same in
      record {
        state = ap (λ (q : Outcome). q.state) step ∙ sym (rw h);
        registers = w.registers ∙ ap (with_readings (state_of z)) c.registers;
        text = subst (λ (q : Outcome). Put o i q.text p j) step b;
      }

-- A line that is absent at the end of the input.
pub end_line : (s : State) (e : Expected) (n : ℕ) → s.expected ≡ number_of e → n ≡ next_number s.lines
    → ((k : OpeningLine) × (e ≡ Opening k)) ⊎ (e ≡ Critical) → line_text n ≡ at_end s
end_line s e n same next =
    ⊎_elim
    (λ w.
    let h = line_below w.0 in
    let k : s.expected ≡ line_place w.0 = same ∙ ap number_of w.1 in
    ap line_text next ∙ sym (end_absent s (λ q. omega arith) (omega arith) (λ q. omega arith)))
    (λ h.
    let k : s.expected ≡ 15 = same ∙ ap number_of h in
    ap line_text next ∙ sym (end_absent s (λ q. omega arith) (omega arith) (λ q. omega arith)))
