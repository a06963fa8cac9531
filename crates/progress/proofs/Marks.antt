-- A line that is read, and the progress after it that goes back to where it stood: the readings are those at the front of the registers, and a line
-- stores no others there.
use mathlib.Core.Path.{◌≡◌, refl, ◌∙◌, ap}
use mathlib.Core.Bool.{Bool, true, false, cond, not}
use mathlib.Core.List.{List, [], ◌∷◌, ◌++◌}
use Prim.Native.Nat.{ℕ, zero, suc, ◌+◌, ◌≤◌}
use native.Mathlib.Omega.{arith}
use lib.Dec.{eqb, ltb}
use lib.ListN.{length, set, take, get_or, replicate}
use lib.Seq.{sets, length-take-le}
use Rattle.text.proofs.Lists.{sets-append}
use Rattle.lines.specs.Statement.{State, Month, Outcome, outcome, counted, fault, opened, opening_read, bill_read, critical_read, run_read}
use Rattle.lines.specs.Statement.{run_or_bill_read, expected_read, line_read, is_unreadable, with_line, begun, with_critical, run_limit, with_run, month_end}
use Rattle.lines.specs.Statement.{bill_expected, critical_expected, run_expected}
use Rattle.grammar.specs.Grammar.{opening_line, bill_line, critical_line, run_line}
use Rattle.lines.specs.Feeding.{with_readings}
use Rattle.lines.proofs.Buffers.{sets-front}
use Rattle.progress.specs.declared.mark.Mark.{Mark}
use Rattle.progress.specs.declared.Progress.{Progress}
use Rattle.progress.specs.Progressing.{state_of, registers_held, Marks, marked, GoesBack}

-- What is stored further on leaves the front.
front_set : (n : ℕ) (l : List ℕ) (i x : ℕ) → n ≤ i → take n (set l i x) ≡ take n l
front_set zero l i x h = refl
front_set (suc n) [] i x h = refl
front_set (suc n) (a ∷ l) zero x h = absurd (omega arith)
front_set (suc n) (a ∷ l) (suc i) x h = ap (λ (r : List ℕ). a ∷ r) (front_set n l i x (omega arith))

front_sets : (n : ℕ) (l : List ℕ) (i : ℕ) (xs : List ℕ) → n ≤ i → take n (sets l i xs) ≡ take n l
front_sets n l i [] h = refl
front_sets n l i (x ∷ xs) h = front_sets n (set l i x) (suc i) xs (omega arith) ∙ front_set n l i x h

front_more : (n : ℕ) (l xs : List ℕ) → n ≤ length l → take n (sets l 0 (take n l ++ xs)) ≡ take n l
front_more n l xs h =
    ap (take n) (sets-append l 0 (take n l) xs ∙ ap (λ (r : List ℕ). sets r (0 + length (take n l)) xs) (sets-front n l))
    ∙ front_sets n l (0 + length (take n l)) xs (omega (arith, length-take-le n l h))

-- The first n of two registers are the readings of a month, and stay so.
record Same (n : ℕ) (l m : List ℕ) (o : Outcome) : Type 0 where
  delivered : take n (sets l 0 o.state.entered.delivered) ≡ take n l
  received : take n (sets m 0 o.state.entered.received) ≡ take n m

module _ (n : ℕ) (l m : List ℕ) (long : n ≤ length l) (wide : n ≤ length m) where
  either : (b : Bool) (x y : Outcome) → Same n l m x → Same n l m y → Same n l m (cond b x y)
  either true x y p q = p
  either false x y p q = q

  module _ (s : State) (d : s.entered.delivered ≡ take n l) (e : s.entered.received ≡ take n m) where
    same : (text : List ℕ) (t : State) → t.entered.delivered ≡ s.entered.delivered → t.entered.received ≡ s.entered.received
        → Same n l m (outcome text t)
    same text t p q = record { delivered = rw (p, d) (ap (take n) (sets-front n l)); received = rw (q, e) (ap (take n) (sets-front n m)) }

    at_fault : Same n l m (fault s)
    unfolding fault
    at_fault = same _ _ refl refl

    at_opened : (t : State) → t.entered ≡ s.entered → Same n l m (opened t)
    unfolding opened
    at_opened t h = same _ _ (ap (λ (k : Month). k.delivered) h) (ap (λ (k : Month). k.received) h)

    at_opening : (v : List ℕ) → Same n l m (opening_read v s)
    unfolding opening_read
    at_opening v =
        let later = with_line v s in
        let read = cond (ltb s.expected 13) (outcome [] later) (opened later) in
        either (is_unreadable v) (fault s) read at_fault
        (either (ltb s.expected 13) (outcome [] later) (opened later) (same [] later refl refl) (at_opened later refl))

    at_bill : (v : List ℕ) → Same n l m (bill_read v s)
    unfolding bill_read
    at_bill v = either (is_unreadable v) (fault s) (outcome [] (begun (get_or v 0 0) s)) at_fault (record { delivered = refl; received = refl })

    at_critical : (v : List ℕ) → Same n l m (critical_read v s)
    unfolding critical_read
    at_critical v =
        let later = with_critical (get_or v 0 0) s in
        either (is_unreadable v) (fault s) (outcome [] later) at_fault (same [] later refl refl)

    at_run : (count a b : ℕ) → Same n l m (run_read count a b s)
    unfolding run_read
    at_run count a b = either (ltb run_limit (length s.entered.delivered + count)) (fault s) (outcome [] (with_run count a b s)) at_fault
        (record { delivered = rw d (front_more n l (replicate count a) long); received = rw e (front_more n m (replicate count b) wide) })

    at_later : (line : List ℕ) → Same n l m (run_or_bill_read line s)
    unfolding run_or_bill_read
    at_later line =
        let v = run_line line in
        let run = run_read (get_or v 0 0) (get_or v 1 0) (get_or v 2 0) s in
        let bill = outcome (month_end s).text (begun (get_or (bill_line line) 0 0) (month_end s).state) in
        let other = cond (is_unreadable (bill_line line)) (fault s) bill in
        either (not (is_unreadable v)) run other (at_run (get_or v 0 0) (get_or v 1 0) (get_or v 2 0))
        (either (is_unreadable (bill_line line)) (fault s) bill at_fault (record { delivered = refl; received = refl }))

    at_expected : (line : List ℕ) → Same n l m (expected_read line s)
    unfolding expected_read
    at_expected line =
        let opening = opening_line s.expected line in
        let last = cond (eqb s.expected run_expected) (run_or_bill_read line s) (outcome [] s) in
        let critical = cond (eqb s.expected critical_expected) (critical_read (critical_line line) s) last in
        let bill = cond (eqb s.expected bill_expected) (bill_read (bill_line line) s) critical in
        either (ltb s.expected bill_expected) (opening_read opening s) bill (at_opening opening)
        (either (eqb s.expected bill_expected) (bill_read (bill_line line) s) critical (at_bill (bill_line line))
        (either (eqb s.expected critical_expected) (critical_read (critical_line line) s) last (at_critical (critical_line line))
        (either (eqb s.expected run_expected) (run_or_bill_read line s) (outcome [] s) (at_later line) (same [] s refl refl))))

  at_line : (s : State) (line : List ℕ) → s.entered.delivered ≡ take n l → s.entered.received ≡ take n m → Same n l m (line_read line s)
  unfolding line_read counted
  at_line s line d e = at_expected (counted s) d e line

-- Where the progress goes back to the mark that it had before a line, it stands for what it did.
pub back_again : (x y z : Progress) (k : Mark) (line : List ℕ) → Marks x k
    → registers_held y ≡ with_readings (line_read line (state_of x)).state (registers_held x) → GoesBack y k z → state_of z ≡ state_of x
unfolding with_readings
back_again x y z k line m r b =
    let n = x.readings.count in
    let kept = at_line n x.readings.delivered x.readings.received (omega (arith, m.count, m.delivered)) (omega (arith, m.count, m.received)) (state_of x) line refl refl in
    b.state ∙ ap (marked k) r ∙ rw (m.lines, m.expected, m.opening, m.account, m.month, m.critical, m.count, kept.delivered, kept.received)
