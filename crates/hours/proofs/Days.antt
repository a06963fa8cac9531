-- Days counted one by one, and bits of the number that names them: the set bits below bit n are the critical days among the first n,
-- and a day after day a is critical exactly where the number shifted by a is not 0.
use mathlib.Core.Path.{◌≡◌, refl}
use mathlib.Core.Bool.{false, cond, not, ◌||◌, or-false, or-true}
use Prim.Native.Nat.{ℕ, zero, suc, ◌+◌, ◌-◌, ◌*◌, ◌/◌, ◌%◌, ◌^◌, ◌≤◌, ◌<◌}
use native.Mathlib.Nat.{add-suc, zero-add, zero-mul, mod-one, mod-lt, div-eq_of_lt}
use native.Mathlib.Numerals.{one-add}
use native.Mathlib.Omega.{arith}
use borrow.Author.Tests.{le-leb, ne_eqb}
use lib.Arith.{digits_mod}
use lib.Bits.{bit_and, and_high}
use lib.Dec.{eqb}
use lib.Count.{ones, ones_cat}
use lib.Pow.{mod-pow-add, pow_mono, shr-shr, pow_pos}
use Rattle.hours.specs.CriticalDays.{is_critical, critical_count, critical_after}

-- The bit of the day after day n.
bit : (x n : ℕ) → is_critical x (suc n) ≡ eqb (x / 2 ^ n % 2) 1
unfolding is_critical
bit x n =
    let h : 1 ≤ suc n = omega arith in
    let e : suc n - 1 ≡ n = omega arith in
    rw (le-leb _ _ h, e)

ones_bit : (b : ℕ) → b < 2 → ones b ≡ cond (eqb b 1) 1 0
unfolding ones
ones_bit zero h = refl
ones_bit (suc zero) h = refl
ones_bit (suc (suc b)) h = absurd (omega arith)

-- The n + 1 lowest bits of y are bit n above the n lowest.
lowest : (y n : ℕ) → y % 2 ^ suc n ≡ (y / 2 ^ n % 2) * 2 ^ n + y % 2 ^ n
lowest y n = rw (← one-add n) (mod-pow-add y 1 n)

pub count_ones : (x n : ℕ) → critical_count x n ≡ ones (x % 2 ^ n)
unfolding critical_count
count_ones x zero = rw mod-one (unfold ones in refl)
count_ones x (suc n) =
    rw (
      bit x n,
      count_ones x n,
      lowest x n,
      ones_cat n (x / 2 ^ n % 2) (x % 2 ^ n) (mod-lt x (pow_pos n)),
      ones_bit (x / 2 ^ n % 2) (omega arith),
    )
    (omega arith)

-- A sum is 0 where both its parts are; the higher part is a bit, at its place.
either : (b p r : ℕ) → b < 2 → 0 < p → not (eqb r 0) || eqb b 1 ≡ not (eqb (b * p + r) 0)
either zero p r h k = rw (zero-mul, zero-add, or-false)
either (suc zero) p r h k = let e : 1 * p + r ≡ 0 → ⊥ = omega arith in rw (or-true, ne_eqb _ _ e)
either (suc (suc b)) p r h k = absurd (omega arith)

after_shift : (x a n : ℕ) → critical_after x a n ≡ not (eqb (x / 2 ^ a % 2 ^ n) 0)
unfolding critical_after
after_shift x a zero = rw mod-one
after_shift x a (suc n) =
    rw (
      add-suc a n,
      bit x (a + n),
      after_shift x a n,
      lowest (x / 2 ^ a) n,
      shr-shr x a n,
    )
    (either (x / 2 ^ (a + n) % 2) (2 ^ n) (x / 2 ^ a % 2 ^ n) (omega arith) (pow_pos n))

-- All 32 bits moved up by n, of which 32 stay, are those from bit n on.
shifted_mask : (n : ℕ) → n < 32 → 4294967295 * 2 ^ n % 4294967296 ≡ 2 ^ (32 - n + n) - 2 ^ n
shifted_mask n h =
    let e : 32 - n + n ≡ 32 = omega arith in
    let l : 2 ^ n ≤ 2 ^ 32 = pow_mono {i = n} {j = 32} (omega arith) in
    let s : 4294967295 * 2 ^ n ≡ (2 ^ n - 1) * 4294967296 + (4294967296 - 2 ^ n) = omega (arith, pow_pos n) in
    rw (e, s) (digits_mod (2 ^ n - 1) (omega (arith, pow_pos n)))

-- A product with a power is 0 where the other factor is.
times_pow : (y n : ℕ) → eqb (y * 2 ^ n) 0 ≡ eqb y 0
times_pow zero n = rw zero-mul
times_pow (suc y) n =
    let e : suc y * 2 ^ n ≡ 0 → ⊥ = omega (arith, pow_pos n) in
    let f : suc y ≡ 0 → ⊥ = omega arith in
    rw (ne_eqb _ _ e, ne_eqb _ _ f)

pub after_mask : (x n : ℕ) → n < 32 → not (eqb (bit_and x (4294967295 * 2 ^ n % 4294967296)) 0) ≡ critical_after x n (32 - n)
after_mask x n h = rw (shifted_mask n h, and_high x (32 - n) n, times_pow (x / 2 ^ n % 2 ^ (32 - n)) n, after_shift x n (32 - n))

-- A day that is no bit of the number.
pub far : (x d : ℕ) → x < 2 ^ 32 → 32 < d → false ≡ is_critical x d
unfolding is_critical
far x d f h =
    let l : 2 ^ 32 ≤ 2 ^ (d - 1) = pow_mono {i = 32} {j = d - 1} (omega arith) in
    let z : x / 2 ^ (d - 1) ≡ 0 = div-eq_of_lt (omega arith) in
    rw (le-leb 1 d (omega arith), z)
