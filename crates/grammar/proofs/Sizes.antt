-- What is readable is short and gives as many numbers as are asked for: words, and what stands after a key.
use mathlib.Core.Path.{◌≡◌, refl}
use mathlib.Core.Bool.{Bool, true, false, cond}
use mathlib.Core.List.{List, [], ◌∷◌}
use Prim.Native.Nat.{ℕ, ◌+◌, ◌≤◌}
use native.Mathlib.Omega.{arith}
use borrow.Author.Tests.{ne_eqb}
use lib.ListN.{length, drop, length-drop}
use Rattle.numerals.proofs.Sizes.{Reader, Short, Few, one_few}
use Rattle.grammar.specs.Grammar.{begins_with, is_text, choice_in, keyed}

-- One of two words.
pub choice_short : (n : ℕ) (first second : List ℕ) → length first ≤ n → length second ≤ n → Short n (choice_in first second)
unfolding choice_in is_text
choice_short n first second p q l h =
    rw (ne_eqb (length l) (length first) (λ e. omega arith), ne_eqb (length l) (length second) (λ e. omega arith))

pub choice_few : (first second : List ℕ) → Few 1 (choice_in first second)
unfolding choice_in
choice_few first second l = by (is_text first l) (is_text second l)
  where
    by : (a b : Bool) → length {A = ℕ} (cond a (0 ∷ []) (cond b (1 ∷ []) [])) ≤ 1
    by true b = omega arith
    by false b = one_few b 1

-- What holds of none and of what is read after a key.
pub keyed_either : (P : List ℕ → Type 0) (key : List ℕ) (read : Reader) (l : List ℕ)
    → P [] → P (read (drop (length key) l)) → P (keyed key read l)
unfolding keyed
keyed_either P key read l none some = by (begins_with key l)
  where
    by : (t : Bool) → P (cond t (read (drop (length key) l)) [])
    by true = some
    by false = none

module _ (key : List ℕ) (read : Reader) where
  pub keyed_short : (n m : ℕ) → length key + n ≤ m → Short n read → Short m (keyed key read)
  keyed_short n m h short l long =
      keyed_either (λ xs. xs ≡ []) key read l refl (short (drop (length key) l) (omega (arith, length-drop (length key) l)))

  pub keyed_few : (n : ℕ) → Few n read → Few n (keyed key read)
  keyed_few n few l = keyed_either (λ xs. length xs ≤ n) key read l (omega arith) (few (drop (length key) l))
