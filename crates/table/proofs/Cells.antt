-- The numbers of a table, and how wide its columns are.
use mathlib.Core.Path.{◌≡◌, refl, ◌∙◌, sym}
use mathlib.Core.Bool.{Bool, true, false, cond, false≢true, ◌||◌}
use mathlib.Core.List.{List, [], ◌∷◌, ◌++◌}
use Prim.Native.Nat.{ℕ, zero, suc, ◌+◌, ◌-◌, ◌≤◌, ◌<◌}
use native.Mathlib.Omega.{arith}
use native.Mathlib.Numerals.{unary_clauses}
use borrow.Author.Tests.{lt-ltb, le-ltb, ltb-true, ltb-false}
use lib.Dec.{ltb, lit≤}
use lib.ListN.{length, get_or, take, drop}
use lib.Seq.{drop-cons}
use Rattle.std.specs.List.{list_any, range_with_len, fold}
use Rattle.table.specs.Numbers.{capped}
use Rattle.table.specs.Table.{shown_numbers, any_wide, width_of}
use Rattle.table.specs.Filling.{cell_at, Width}

-- The sum of four numbers side by side, which stays at the largest number of 64 bits, as `fold` adds them up.
abbrev pub sum_on : ℕ → ℕ → ℕ
sum_on sum n = capped (sum + n)

pub four_summed : (ns : List ℕ) (j : ℕ) → j + 4 ≤ length ns
    → fold sum_on 0 (take (j + 4 - j) (drop j ns)) ≡ capped (get_or ns (j + 0) 0 + get_or ns (j + 1) 0 + get_or ns (j + 2) 0 + get_or ns (j + 3) 0)
four_summed ns j h =
    let four : j + 4 - j ≡ 4 = omega arith in
    let one = drop-cons ns j 0 (omega arith) in
    let two = drop-cons ns (suc j) 0 (omega arith) in
    let three = drop-cons ns (suc (suc j)) 0 (omega arith) in
    let last = drop-cons ns (suc (suc (suc j))) 0 (omega arith) in
    rw (four, one, two, three, last) (simp unary_clauses (omega arith))

-- The first k values of a function.
abbrev pub up_to : {A : Type 0} → (ℕ → A) → ℕ → List A
up_to f zero = []
up_to f (suc k) = up_to f k ++ f k ∷ []

-- The numbers of a table are its 37 cells.
pub cells_are : (ns : List ℕ) → shown_numbers ns ≡ up_to (cell_at ns) 37
unfolding shown_numbers cell_at
cells_are ns = refl

-- Whether one of the first k cells is too wide.
abbrev pub wide_to : List ℕ → ℕ → Bool
wide_to ns k = any_wide (up_to (cell_at ns) k)

-- A number more is too wide, or it isn't and those before it decide.
any_yes : (ms : List ℕ) (n : ℕ) → 999999999 < n → any_wide (ms ++ n ∷ []) ≡ true
unfolding any_wide
any_yes [] n h = simp (lt-ltb 999999999 n h)
any_yes (m ∷ ms) n h = rw (any_yes ms n h) (by (ltb 999999999 m))
  where
    by : (t : Bool) → (t || true) ≡ true
    by true = refl
    by false = refl

any_no : (ms : List ℕ) (n : ℕ) → n ≤ 999999999 → any_wide (ms ++ n ∷ []) ≡ any_wide ms
unfolding any_wide
any_no [] n h = simp (le-ltb 999999999 n h)
any_no (m ∷ ms) n h = rw (any_no ms n h)

-- So where none is too wide, none of them is.
pub each_narrow : (ns : List ℕ) (m k : ℕ) → k < m → wide_to ns m ≡ false → cell_at ns k ≤ 999999999
each_narrow ns zero k h e = absurd (omega arith)
each_narrow ns (suc m) k h e = by (ltb 999999999 (cell_at ns m)) refl (ltb k m) refl (λ l f. each_narrow ns m k l f)
  where
    by : (t : Bool) → ltb 999999999 (cell_at ns m) ≡ t → (u : Bool) → ltb k m ≡ u
        → (k < m → wide_to ns m ≡ false → cell_at ns k ≤ 999999999)
        → cell_at ns k ≤ 999999999
    by true f u g r = absurd (false≢true (sym e ∙ any_yes (up_to (cell_at ns) m) (cell_at ns m) (ltb-true 999999999 (cell_at ns m) f)))
    by false f true g r =
        r (ltb-true k m g) (sym (any_no (up_to (cell_at ns) m) (cell_at ns m) (ltb-false 999999999 (cell_at ns m) f)) ∙ e)
    by false f false g r = let same : k ≡ m = omega (arith, ltb-false k m g) in rw same (ltb-false 999999999 (cell_at ns m) f)

-- Whether a cell is too wide, and the width by that of each.
abbrev pub is_wide : List ℕ → ℕ → Bool
is_wide ns k = ltb 999999999 (cell_at ns k)

pub width_by : {ns : List ℕ} (b : Bool) → b ≡ list_any (is_wide ns) (range_with_len 0 37) → Width ns (cond b 28 13)
unfolding width_of any_wide shown_numbers cell_at
width_by true e = record { is = rw (← e); least = lit≤ tt; most = lit≤ tt }
width_by false e = record { is = rw (← e); least = lit≤ tt; most = lit≤ tt }
