-- The lines of the opening have the widths that the grammar gives them.
use mathlib.Core.Path.{◌≡◌, refl}
use mathlib.Core.Bool.{Bool, true, false, cond}
use mathlib.Core.List.{List, [], ◌∷◌}
use mathlib.Core.Logic.{◌⊎◌, inl, inr, ⊎_elim}
use Prim.Native.Nat.{ℕ, zero, suc, ◌+◌, ◌-◌, ◌≤◌, ◌<◌}
use native.Mathlib.Omega.{arith}
use borrow.Author.Tests.{eqb-true, eqb-false, ne_eqb}
use lib.Dec.{eqb, leb, ltb, eqb→eq, leb→le, ltb→lt}
use lib.ListN.{length, replicate}
use lib.Seq.{sets}
use Rattle.calendar.proofs.Below.{below}
use Rattle.grammar.specs.Grammar.{opening_line}
use Rattle.tariff.specs.Tariff.{most_nameplates, nameplates_of, eight_at}
use Rattle.grammar.proofs.Laws.{opening_count, nameplates_count, prices_count}
use Rattle.lines.specs.Opening.{width_of_line, place_of_line, opening_length, nameplate_line, kept_of_line, opening_terms}

-- Computed line by line: of every line but those of the nameplates and the prices one number is kept, of none but the first of these more than
-- four, and each begins within the list.
pub one_number : (k : ℕ) → k < 14 → (k ≡ 6 → ⊥) → (k ≡ 3 → ⊥) → width_of_line k ≡ 1
one_number k h n m =
    let same : cond (eqb k 6) 1 (cond (eqb k 3) 1 (width_of_line k)) ≡ 1 =
    eqb→eq _ _ (below (λ k. eqb (cond (eqb k 6) 1 (cond (eqb k 3) 1 (width_of_line k))) 1) 14 tt k h) in
    rw (ne_eqb k 6 n, ne_eqb k 3 m) at same

pub width_within : (k : ℕ) → k < 14 → (k ≡ 3 → ⊥) → width_of_line k ≤ 4
width_within k h m =
    let few : cond (eqb k 3) 1 (width_of_line k) ≤ 4 = leb→le _ _ (below (λ k. leb (cond (eqb k 3) 1 (width_of_line k)) 4) 14 tt k h) in
    rw (ne_eqb k 3 m) at few

pub place_within : (k : ℕ) → k < 14 → place_of_line k < opening_length
place_within k h = ltb→lt _ _ (below (λ k. ltb (place_of_line k) opening_length) 14 tt k h)

-- A line other than that of the nameplates gives none where it is unreadable, and otherwise as many as its width.
by_count : (k n : ℕ) → k < 14 → (k ≡ 6 → ⊥) → (k ≡ 3 → ⊥) → n ≤ 1 → (n ≡ 0) ⊎ (n ≡ width_of_line k)
by_count k zero h m p few = inl refl
by_count k (suc n) h m p few = inr (omega (arith, one_number k h m p))

pub line_gives : (k : ℕ) (l : List ℕ) → k < 14 → (k ≡ 3 → ⊥)
    → (length (opening_line k l) ≡ 0) ⊎ (length (opening_line k l) ≡ width_of_line k)
line_gives k l h p = by (eqb k 6) refl
  where
    by : (b : Bool) → eqb k 6 ≡ b → (length (opening_line k l) ≡ 0) ⊎ (length (opening_line k l) ≡ width_of_line k)
    by true e = rw (eqb-true k 6 e) (prices_count l)
    by false e = by_count k (length (opening_line k l)) h (eqb-false k 6 e) p (opening_count k l (eqb-false k 6 e) p)

-- What is kept of a readable line, of that of the nameplates too, fills its width.
pub line_fills : (k : ℕ) (l : List ℕ) → k < 14
    → (length (opening_line k l) ≡ 0) ⊎ (length (kept_of_line k (opening_line k l)) ≡ width_of_line k)
unfolding kept_of_line
line_fills k l h = by (eqb k 3) refl
  where
    by : (b : Bool) → eqb k 3 ≡ b
        → (length (opening_line k l) ≡ 0)
        ⊎ (length (cond (eqb (k + 1) nameplate_line) (length (opening_line k l) ∷ eight_at (opening_line k l) 0 0) (opening_line k l)) ≡ width_of_line k)
    by true e = inr (rw (eqb-true k 3 e))
    by false e =
        let p = eqb-false k 3 e in
        rw (ne_eqb (k + 1) nameplate_line (λ q. p (omega arith))) (line_gives k l h p)

-- No line gives more numbers than there are places for nameplates.
pub line_few : (k : ℕ) (l : List ℕ) → k < 14 → length (opening_line k l) ≤ most_nameplates
line_few k l h = by (eqb k 3) refl
  where
    by : (b : Bool) → eqb k 3 ≡ b → length (opening_line k l) ≤ most_nameplates
    by true e = rw (eqb-true k 3 e) (nameplates_count l)
    by false e =
        let p = eqb-false k 3 e in
        ⊎_elim (λ q. omega arith) (λ q. omega (arith, q, width_within k h p)) (line_gives k l h p)

-- What line 4 gives, up to eight numbers and zeros among them, are the nameplates of the terms that are read from the numbers kept of it; those kept of
-- other lines stand elsewhere (`line_fills`).
pub nameplates_read : (v : List ℕ) → length v ≤ most_nameplates
    → nameplates_of (opening_terms (sets (replicate opening_length 0) (place_of_line (nameplate_line - 1)) (kept_of_line (nameplate_line - 1) v))) ≡ v
unfolding nameplates_of opening_terms kept_of_line
nameplates_read [] h = refl
nameplates_read (a ∷ []) h = refl
nameplates_read (a ∷ b ∷ []) h = refl
nameplates_read (a ∷ b ∷ c ∷ []) h = refl
nameplates_read (a ∷ b ∷ c ∷ d ∷ []) h = refl
nameplates_read (a ∷ b ∷ c ∷ d ∷ e ∷ []) h = refl
nameplates_read (a ∷ b ∷ c ∷ d ∷ e ∷ f ∷ []) h = refl
nameplates_read (a ∷ b ∷ c ∷ d ∷ e ∷ f ∷ g ∷ []) h = refl
nameplates_read (a ∷ b ∷ c ∷ d ∷ e ∷ f ∷ g ∷ i ∷ []) h = refl
nameplates_read (a ∷ b ∷ c ∷ d ∷ e ∷ f ∷ g ∷ i ∷ j ∷ v) h = absurd (omega (arith, h))
