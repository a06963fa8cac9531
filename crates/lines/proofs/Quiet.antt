-- After a fault nothing is printed, whatever follows.
use mathlib.Core.Path.{◌≡◌, refl}
use mathlib.Core.Bool.{true}
use mathlib.Core.List.{List, [], ◌∷◌, ◌++◌}
use Prim.Native.Nat.{ℕ}
use lib.Dec.{eqb}
use lib.ListN.{length}
use Rattle.std.proofs.lemmas.Bool.{cond_both}
use Rattle.lines.specs.Statement.{has_stopped}
use Rattle.lines.proofs.Stopped.{stopped_text, stopped_again, stopped_end}
use Rattle.lines.specs.Feeding.{SoFar, after_byte, byte_text, after, printed, ending}

module _ (x : SoFar) (h : has_stopped x.state ≡ true) where
  byte_quiet : (b : ℕ) → byte_text x b ≡ []
  unfolding byte_text
  byte_quiet b = cond_both (eqb b 10) _ _ (λ (t : List ℕ). t ≡ []) (λ _. stopped_text x.state h x.line) (λ _. refl)

  byte_stopped : (b : ℕ) → has_stopped (after_byte x b).state ≡ true
  unfolding after_byte
  byte_stopped b = cond_both (eqb b 10) _ _ (λ (y : SoFar). has_stopped y.state ≡ true) (λ _. stopped_again x.state h x.line) (λ _. h)

  end_quiet : ending x ≡ []
  unfolding ending
  end_quiet =
      cond_both (eqb (length x.line) 0) _ _ (λ (t : List ℕ). t ≡ []) (λ _. stopped_end x.state h)
      (λ _. rw (stopped_text x.state h x.line) (stopped_end _ (stopped_again x.state h x.line)))

pub quiet : (x : SoFar) (bytes : List ℕ) → has_stopped x.state ≡ true → printed x bytes ++ ending (after x bytes) ≡ []
unfolding printed after
quiet x [] h = end_quiet x h
quiet x (b ∷ bytes) h = rw (byte_quiet x h b) (quiet (after_byte x b) bytes (byte_stopped x h b))
