-- Laws of lists that the kit lacks: items stored in a buffer from a place on.
use mathlib.Core.Path.{◌≡◌, refl, ◌∙◌}
use mathlib.Core.List.{List, [], ◌∷◌, ◌++◌}
use Prim.Native.Nat.{ℕ, suc, ◌+◌, ◌≤◌}
use native.Mathlib.Nat.{add-zero, add-suc, suc-add}
use native.Mathlib.Omega.{arith}
use lib.ListN.{length, set}
use lib.Seq.{sets, set_out}

-- Two lists are stored one after the other.
pub sets-append : {A : Type 0} (l : List A) (i : ℕ) (xs ys : List A) → sets l i (xs ++ ys) ≡ sets (sets l i xs) (i + length xs) ys
sets-append l i [] ys = rw add-zero
sets-append l i (x ∷ xs) ys = sets-append (set l i x) (suc i) xs ys ∙ rw (add-suc, suc-add)

-- Nothing is stored past the end.
pub sets-out : {A : Type 0} (l : List A) (i : ℕ) (xs : List A) → length l ≤ i → sets l i xs ≡ l
sets-out l i [] h = refl
sets-out l i (x ∷ xs) h = rw (set_out l i x h) (sets-out l (suc i) xs (omega arith))
