-- The definition's tests and sums of lists of numbers, as std's methods make them.
use mathlib.Core.Path.{◌≡◌, refl}
use mathlib.Core.Bool.{Bool, true, false, ◌||◌, or-true}
use mathlib.Core.List.{List, [], ◌∷◌}
use Prim.Native.Nat.{ℕ, ◌+◌, ◌-◌, ◌^◌, ◌≤◌, ◌<◌, min}
use native.Mathlib.Omega.{arith}
use borrow.Author.Tests.{lt-ltb, le-ltb, leb-true, leb-false}
use lib.Dec.{leb, ltb}
use Rattle.std.specs.List.{list_any, fold}
use Rattle.tariff.specs.Tariff.{some_over, some_under, sum_of_all}

-- Whether one of some numbers is above a limit, or below a least one.
pub some_over_is : (limit : ℕ) (xs : List ℕ) → list_any (λ x. ltb limit x) xs ≡ some_over limit xs
some_over_is limit [] = refl
some_over_is limit (x ∷ xs) = rw (some_over_is limit xs)

pub some_under_is : (least : ℕ) (xs : List ℕ) → list_any (λ x. ltb x least) xs ≡ some_under least xs
some_under_is least [] = refl
some_under_is least (x ∷ xs) = rw (some_under_is least xs)

-- A sum that stays at the largest number of 64 bits where it passes it.
abbrev pub capped : ℕ → ℕ → ℕ
capped total x = min (total + x) (2 ^ 64 - 1)

pub capped_sum : (total : ℕ) (xs : List ℕ) → total < 2 ^ 64 → fold capped total xs ≡ min (total + sum_of_all xs) (2 ^ 64 - 1)
capped_sum total [] h = omega arith
capped_sum total (x ∷ xs) h = omega (arith, capped_sum (capped total x) xs (omega arith))

-- A total that passes 64 bits is above every limit that doesn't: where the first limit isn't passed by the total as the code has it, the second
-- decides.
pub capped_decides : (n limit beside r : ℕ) → r ≡ min n (2 ^ 64 - 1) → r ≤ limit → beside < 2 ^ 64 - 1
    → ltb beside r ≡ (ltb limit n || ltb beside n)
capped_decides n limit beside r e h p = by (leb n (2 ^ 64 - 1)) refl
  where
    by : (t : Bool) → leb n (2 ^ 64 - 1) ≡ t → ltb beside r ≡ (ltb limit n || ltb beside n)
    by true f =
        let fits : n ≤ 2 ^ 64 - 1 = leb-true _ _ f in
        let same : r ≡ n = omega arith in
        rw (le-ltb limit n (omega arith), same)
    by false f =
        let passes : 2 ^ 64 - 1 < n = leb-false _ _ f in
        rw (lt-ltb beside r (omega arith), lt-ltb beside n (omega arith), or-true (ltb limit n))
