-- What a line or the end of the input prints is one of three texts or nothing: what holds of each of these holds of it.
use mathlib.Core.Bool.{Bool, true, false, cond, not, ◌||◌}
use mathlib.Core.List.{List, []}
use Prim.Native.Nat.{ℕ, ◌+◌}
use lib.Dec.{eqb, ltb}
use lib.ListN.{length, get_or}
use Rattle.std.proofs.lemmas.Bool.{cond_both}
use Rattle.billing.specs.declared.Bill.{Bill}
use Rattle.grammar.specs.Grammar.{opening_line, bill_line, critical_line, run_line}
use Rattle.printing.specs.Printing.{bill_text, open_text, line_text}
use Rattle.lines.specs.Statement.{State, Outcome, counted, fault, opened, opening_read, bill_read, critical_read, run_read, month_end, run_or_bill_read}
use Rattle.lines.specs.Statement.{expected_read, line_read, at_end, bill_expected, critical_expected, run_expected, outcome, is_unreadable}
use Rattle.lines.specs.Statement.{has_stopped}

-- P holds of the empty text, an opening's number, a month, and the line of a fault.
pub record OfTexts (P : List ℕ → Type 0) : Type 0 where
  pub none : P []
  pub opening : (n : ℕ) → P (open_text n)
  pub month : (m n : ℕ) (b : Bill) → P (bill_text m n b)
  pub stop : (n : ℕ) → P (line_text n)

-- It holds of what a step prints.
record Prints (P : List ℕ → Type 0) (x : Outcome) : Type 0 where
  pub text : P x.text

either : {P : List ℕ → Type 0} (t : Bool) {x y : Outcome} → Prints P x → Prints P y → Prints P (cond t x y)
either true p q = p
either false p q = q

module _ {P : List ℕ → Type 0} (w : OfTexts P) where
  nothing : (s : State) → Prints P (outcome [] s)
  nothing s = record { text = w.none }

  stopped : (s : State) → Prints P (fault s)
  unfolding fault
  stopped s = record { text = w.stop s.lines }

  opened_prints : (s : State) → Prints P (opened s)
  unfolding opened
  opened_prints s = record { text = w.opening _ }

  month_prints : (s : State) → P (month_end s).text
  unfolding month_end
  month_prints s = w.month _ _ _

  opening_prints : (v : List ℕ) (s : State) → Prints P (opening_read v s)
  unfolding opening_read
  opening_prints v s = either (is_unreadable v) (stopped s) (either (ltb s.expected 13) (nothing _) (opened_prints _))

  bill_prints : (v : List ℕ) (s : State) → Prints P (bill_read v s)
  unfolding bill_read
  bill_prints v s = either (is_unreadable v) (stopped s) (nothing _)

  critical_prints : (v : List ℕ) (s : State) → Prints P (critical_read v s)
  unfolding critical_read
  critical_prints v s = either (is_unreadable v) (stopped s) (nothing _)

  run_prints : (n d e : ℕ) (s : State) → Prints P (run_read n d e s)
  unfolding run_read
  run_prints n d e s = either (ltb 2976 (length s.entered.delivered + n)) (stopped s) (nothing _)

  later_prints : (l : List ℕ) (s : State) → Prints P (run_or_bill_read l s)
  unfolding run_or_bill_read
  later_prints l s =
      either (not (is_unreadable (run_line l))) (run_prints (get_or (run_line l) 0 0) (get_or (run_line l) 1 0) (get_or (run_line l) 2 0) s)
      (either (is_unreadable (bill_line l)) (stopped s) (record { text = month_prints s }))

  expected_prints : (l : List ℕ) (s : State) → Prints P (expected_read l s)
  unfolding expected_read
  expected_prints l s =
      either (ltb s.expected bill_expected) (opening_prints (opening_line s.expected l) s)
      (either (eqb s.expected bill_expected) (bill_prints (bill_line l) s)
      (either (eqb s.expected critical_expected) (critical_prints (critical_line l) s) (either (eqb s.expected run_expected) (later_prints l s) (nothing s))))

  pub line_prints : (l : List ℕ) (s : State) → P (line_read l s).text
  unfolding line_read
  line_prints l s = (expected_prints l (counted s)).text

  pub end_prints : (s : State) → P (at_end s)
  unfolding at_end
  end_prints s =
      cond_both (eqb s.expected bill_expected || has_stopped s) _ _ P (λ _. w.none)
      (λ _. cond_both (eqb s.expected run_expected) _ _ P (λ _. month_prints s) (λ _. w.stop _))
