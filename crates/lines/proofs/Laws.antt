-- What lines change, over plain values: each law says what a definition gives where a test holds or fails.
use mathlib.Core.Path.{◌≡◌, refl, sym, ap}
use mathlib.Core.Bool.{false}
use mathlib.Core.List.{List, [], ◌∷◌}
use Prim.Native.Nat.{ℕ, ◌+◌, ◌≤◌, ◌<◌}
use native.Mathlib.Omega.{arith}
use borrow.Author.Tests.{lt-ltb, le-ltb, eq-eqb, ne_eqb}
use lib.Dec.{eqb}
use lib.ListN.{length, get_or}
use Rattle.account.specs.Account.{BillingReply}
use Rattle.grammar.specs.Grammar.{opening_line, bill_line, critical_line, run_line}
use Rattle.printing.specs.Printing.{bill_text, line_text}
use Rattle.lines.specs.Statement.{State, outcome, next_number, fault, opened, opening_read, begun, bill_read, with_critical, critical_read}
use Rattle.lines.specs.Statement.{with_line, with_run, run_read, month_reply, month_end, run_or_bill_read, expected_read, at_end}
use Rattle.lines.specs.Statement.{has_stopped}

-- A line that gives no numbers, and one that gives one.
module _ (s : State) where
  pub bill_no : bill_read [] s ≡ fault s
  unfolding bill_read
  bill_no = refl

  pub bill_yes : (n : ℕ) → bill_read (n ∷ []) s ≡ outcome [] (begun n s)
  unfolding bill_read
  bill_yes n = refl

  pub critical_no : critical_read [] s ≡ fault s
  unfolding critical_read
  critical_no = refl

  pub critical_yes : (n : ℕ) → critical_read (n ∷ []) s ≡ outcome [] (with_critical n s)
  unfolding critical_read
  critical_yes n = refl

  pub opening_no : opening_read [] s ≡ fault s
  unfolding opening_read
  opening_no = refl

module _ (v : List ℕ) (some : 0 < length v) (s : State) where
  read : eqb (length v) 0 ≡ false
  read = ne_eqb (length v) 0 (λ q. omega arith)

  pub opening_more : s.expected < 13 → opening_read v s ≡ outcome [] (with_line v s)
  unfolding opening_read
  opening_more k = rw (read, lt-ltb s.expected 13 k)

  pub opening_last : 13 ≤ s.expected → opening_read v s ≡ opened (with_line v s)
  unfolding opening_read
  opening_last k = rw (read, le-ltb s.expected 13 k)

-- A line after the critical line.
module _ (l : List ℕ) (s : State) where
  pub later_run : (length (run_line l) ≡ 0 → ⊥)
      → run_or_bill_read l s ≡ run_read (get_or (run_line l) 0 0) (get_or (run_line l) 1 0) (get_or (run_line l) 2 0) s
  unfolding run_or_bill_read
  later_run h = rw (ne_eqb (length (run_line l)) 0 h)

  pub later_no : [] ≡ run_line l → [] ≡ bill_line l → run_or_bill_read l s ≡ fault s
  unfolding run_or_bill_read
  later_no h k = rw (← h, ← k)

  pub later_bill : (n : ℕ) → [] ≡ run_line l → n ∷ [] ≡ bill_line l
      → run_or_bill_read l s ≡ outcome (month_end s).text (begun n (month_end s).state)
  unfolding run_or_bill_read
  later_bill n h k = rw (← h, ← k)

-- A run past the most readings, and one that fits.
pub run_no : (count d e : ℕ) (s : State) → 2976 < length s.entered.delivered + count → run_read count d e s ≡ fault s
unfolding run_read
run_no count d e s h = rw (lt-ltb 2976 (length s.entered.delivered + count) h)

pub run_yes : (count d e : ℕ) (s : State) → length s.entered.delivered + count ≤ 2976
    → run_read count d e s ≡ outcome [] (with_run count d e s)
unfolding run_read
run_yes count d e s h = rw (le-ltb 2976 (length s.entered.delivered + count) h)

-- What is expected decides.
module _ (l : List ℕ) (s : State) where
  pub expected_opening : s.expected < 14 → expected_read l s ≡ opening_read (opening_line s.expected l) s
  unfolding expected_read
  expected_opening h = rw (lt-ltb s.expected 14 h)

  pub expected_bill : 14 ≤ s.expected → s.expected ≡ 14 → expected_read l s ≡ bill_read (bill_line l) s
  unfolding expected_read
  expected_bill h e = rw (le-ltb s.expected 14 h, eq-eqb s.expected 14 e)

  pub expected_critical : 14 ≤ s.expected → (s.expected ≡ 14 → ⊥) → s.expected ≡ 15 → expected_read l s ≡ critical_read (critical_line l) s
  unfolding expected_read
  expected_critical h n e = rw (le-ltb s.expected 14 h, ne_eqb s.expected 14 n, eq-eqb s.expected 15 e)

  pub expected_later : 14 ≤ s.expected → (s.expected ≡ 14 → ⊥) → (s.expected ≡ 15 → ⊥) → s.expected ≡ 16 → expected_read l s ≡ run_or_bill_read l s
  unfolding expected_read
  expected_later h n m e = rw (le-ltb s.expected 14 h, ne_eqb s.expected 14 n, ne_eqb s.expected 15 m, eq-eqb s.expected 16 e)

  pub expected_none : 14 ≤ s.expected → (s.expected ≡ 14 → ⊥) → (s.expected ≡ 15 → ⊥) → (s.expected ≡ 16 → ⊥) → expected_read l s ≡ outcome [] s
  unfolding expected_read
  expected_none h n m k = rw (le-ltb s.expected 14 h, ne_eqb s.expected 14 n, ne_eqb s.expected 15 m, ne_eqb s.expected 16 k)

-- The end of the input.
module _ (s : State) where
  pub end_opened : s.expected ≡ 14 → at_end s ≡ []
  unfolding at_end
  end_opened e = rw (eq-eqb s.expected 14 e)

  pub end_stopped : (s.expected ≡ 14 → ⊥) → 16 < s.expected → at_end s ≡ []
  unfolding at_end has_stopped
  end_stopped n h = rw (ne_eqb s.expected 14 n, lt-ltb 16 s.expected h)

  pub end_month : (r : BillingReply) → r ≡ month_reply s → (s.expected ≡ 14 → ⊥) → s.expected ≤ 16 → s.expected ≡ 16
      → at_end s ≡ bill_text s.entered.month r.number r.bill
  unfolding at_end has_stopped month_end
  end_month r e n h k =
      rw (ne_eqb s.expected 14 n, le-ltb 16 s.expected h, eq-eqb s.expected 16 k)
      (ap (λ (q : BillingReply). bill_text s.entered.month q.number q.bill) (sym e))

  pub end_absent : (s.expected ≡ 14 → ⊥) → s.expected ≤ 16 → (s.expected ≡ 16 → ⊥) → at_end s ≡ line_text (next_number s.lines)
  unfolding at_end has_stopped
  end_absent n h k = rw (ne_eqb s.expected 14 n, le-ltb 16 s.expected h, ne_eqb s.expected 16 k)
