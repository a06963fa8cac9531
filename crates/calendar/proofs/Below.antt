-- A test that holds of each number below a bound, by one computation: how the rule of a table is proved once, over the whole table.
use mathlib.Core.Path.{subst, sym}
use mathlib.Core.Bool.{Bool, true, false, ◌&&◌}
use mathlib.Core.Logic.{⊎_elim}
use Prim.Native.Nat.{ℕ, zero, suc, ◌<◌}
use native.Mathlib.Nat.{not-suc-le-zero, le_of_suc-le-suc, eq-or-lt_of_le}
use lib.Dec.{T}

-- f passes at each number below n.
abbrev pub all_below : (ℕ → Bool) → ℕ → Bool
all_below f zero = true
all_below f (suc n) = f n && all_below f n

pub and_left : (a b : Bool) → T (a && b) → T a
and_left true b t = tt
and_left false b t = t

pub and_right : (a b : Bool) → T (a && b) → T b
and_right true b t = t
and_right false b t = absurd t

pub below : (f : ℕ → Bool) (n : ℕ) → T (all_below f n) → (k : ℕ) → k < n → T (f k)
below f zero t k h = absurd (not-suc-le-zero h)
below f (suc n) t k h =
    ⊎_elim
    (λ e. subst (λ (j : ℕ). T (f j)) (sym e) (and_left (f n) (all_below f n) t))
    (λ l. below f n (and_right (f n) (all_below f n) t) k l)
    (eq-or-lt_of_le (le_of_suc-le-suc h))
