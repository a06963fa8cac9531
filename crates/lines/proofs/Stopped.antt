-- After a fault a line is only counted: nothing is printed any more.
use mathlib.Core.Path.{◌≡◌, ap}
use mathlib.Core.Bool.{true}
use mathlib.Core.List.{List, []}
use Prim.Native.Nat.{ℕ, ◌<◌}
use native.Mathlib.Omega.{arith}
use borrow.Author.Tests.{ltb-true, le-ltb, ne_eqb}
use Rattle.lines.specs.Statement.{State, Outcome, outcome, has_stopped, counted, expected_read, line_read, at_end}

module _ (s : State) (h : has_stopped s ≡ true) where
  -- No line is expected.
  past : 16 < s.expected
  unfolding has_stopped
  past = ltb-true 16 s.expected h

  stopped_line : (l : List ℕ) → line_read l s ≡ outcome [] (counted s)
  unfolding line_read expected_read counted
  stopped_line l =
      rw (
        le-ltb s.expected 14 (omega (arith, past)),
        ne_eqb s.expected 14 (λ e. omega (arith, past, e)),
        ne_eqb s.expected 15 (λ e. omega (arith, past, e)),
        ne_eqb s.expected 16 (λ e. omega (arith, past, e)),
      )

  pub stopped_text : (l : List ℕ) → (line_read l s).text ≡ []
  stopped_text l = ap (λ (x : Outcome). x.text) (stopped_line l)

  pub stopped_again : (l : List ℕ) → has_stopped (line_read l s).state ≡ true
  unfolding has_stopped counted
  stopped_again l = rw (stopped_line l) h

  pub stopped_end : at_end s ≡ []
  unfolding at_end
  stopped_end = rw (ne_eqb s.expected 14 (λ e. omega (arith, past, e)), h)
