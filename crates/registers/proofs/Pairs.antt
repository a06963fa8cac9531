-- A stretch in pairs, read by place.
use mathlib.Core.Path.{◌≡◌, ap, sym}
use mathlib.Core.List.{List, [], ◌∷◌}
use Prim.Native.Nat.{ℕ, zero, suc, ◌+◌, ◌-◌, ◌*◌, ◌<◌}
use native.Mathlib.Omega.{arith}
use lib.ListN.{length, get_or, take, drop}
use Rattle.std.proofs.lemmas.List.{get_or-take, get_or-drop}
use Rattle.std.specs.Simd.{first_chunks}
use Rattle.hours.proofs.Chunks.{chunk_at}

-- Number j of pair i of a stretch from place a to place b.
pub pair_at : (s : List ℕ) (a b k i j : ℕ) → i < k → j < 2 → a + (2 * i + j) < b
    → get_or (get_or (first_chunks 2 k (take (b - a) (drop a s))) i []) j 0 ≡ get_or s (a + (2 * i + j)) 0
pair_at s a b k i j h l e =
    rw (
      chunk_at 2 k i (take (b - a) (drop a s)) h,
      get_or-take 2 (drop (2 * i) (take (b - a) (drop a s))) j 0 l,
      get_or-drop (2 * i) (take (b - a) (drop a s)) j 0,
      get_or-take (b - a) (drop a s) (2 * i + j) 0 (omega arith),
      get_or-drop a s (2 * i + j) 0,
    )

-- The first of what is left behind n items.
pub record First {X : Type 0} (n : ℕ) (all left : List X) (d x : X) : Type 0 where
  pub item : x ≡ get_or all n d
  pub rest : left ≡ drop (suc n) all
  pub within : n < length all

pub first_left : {X : Type 0} (n : ℕ) (all left : List X) (d x : X) → drop n all ≡ x ∷ left → First n all left d x
first_left zero [] left d x e = let none : 0 ≡ suc (length left) = ap length e in absurd (omega arith)
first_left zero (y ∷ all) left d x e = record {
  item = ap (λ l. get_or l 0 d) (sym e);
  rest = ap (drop 1) (sym e);
  within = omega arith;
}
first_left (suc n) [] left d x e = let none : 0 ≡ suc (length left) = ap length e in absurd (omega arith)
first_left (suc n) (y ∷ all) left d x e =
    let first = first_left n all left d x e in
    record {
      item = first.item;
      rest = first.rest;
      within = omega (arith, first.within);
    }

-- So number j of the pair that is taken behind i pairs.
pub taken_at : (s : List ℕ) (a b k i j : ℕ) {pairs left : List (List ℕ)} {pair : List ℕ} → pairs ≡ first_chunks 2 k (take (b - a) (drop a s))
    → drop i pairs ≡ pair ∷ left → i < k → j < 2 → a + (2 * i + j) < b → get_or pair j 0 ≡ get_or s (a + (2 * i + j)) 0
taken_at s a b k i j {pairs} {left} {pair} e f h l m =
    let first = first_left i pairs left [] pair f in
    rw (first.item, e) (pair_at s a b k i j h l m)
