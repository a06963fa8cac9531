-- A list stored in a buffer from a place on, and the readings of a month stored in the registers.
use mathlib.Core.Path.{◌≡◌, refl, sym, ◌∙◌, ap}
use mathlib.Core.List.{List, [], ◌∷◌, ◌++◌}
use Prim.Native.Nat.{ℕ, zero, suc, ◌<◌}
use native.Mathlib.Omega.{arith}
use lib.ListN.{set, take}
use lib.Seq.{sets, set_comm, set-set}
use Rattle.text.proofs.Lists.{sets-append}
use Rattle.lines.specs.Statement.{State}
use Rattle.lines.specs.Feeding.{SoFar, after, after_byte, Registers, registers_of, with_readings, registers_after}

-- A front stored where it stands changes nothing.
sets-tail : (a : ℕ) (l : List ℕ) (i : ℕ) (xs : List ℕ) → sets (a ∷ l) (suc i) xs ≡ a ∷ sets l i xs
sets-tail a l i [] = refl
sets-tail a l i (x ∷ xs) = sets-tail a (set l i x) (suc i) xs

pub sets-front : (n : ℕ) (l : List ℕ) → sets l 0 (take n l) ≡ l
sets-front zero l = refl
sets-front (suc n) [] = refl
sets-front (suc n) (a ∷ l) = sets-tail a l 0 (take n l) ∙ ap (λ (r : List ℕ). a ∷ r) (sets-front n l)

-- What was stored is stored again, with more behind it or without.
set_before : (l : List ℕ) (i j : ℕ) (a : ℕ) (xs : List ℕ) → j < i → set (sets l i xs) j a ≡ sets (set l j a) i xs
set_before l i j a [] h = refl
set_before l i j a (x ∷ xs) h =
    set_before (set l i x) (suc i) j a xs (omega arith)
    ∙ ap (λ (r : List ℕ). sets r (suc i) xs) (set_comm l i j x a (λ e. omega arith))

pub sets-again : (l : List ℕ) (i : ℕ) (xs : List ℕ) → sets (sets l i xs) i xs ≡ sets l i xs
sets-again l i [] = refl
sets-again l i (x ∷ xs) =
    ap (λ (r : List ℕ). sets r (suc i) xs) (set_before (set l i x) (suc i) i x xs (omega arith) ∙ rw set-set)
    ∙ sets-again (set l i x) (suc i) xs

sets_over : (l : List ℕ) (i : ℕ) (xs ys : List ℕ) → sets (sets l i xs) i (xs ++ ys) ≡ sets l i (xs ++ ys)
sets_over l i xs ys = rw (sets-append, sets-again) (sym (sets-append l i xs ys))

-- The same of the registers: readings stored where they stand change nothing, those stored twice are stored once, and more readings cover
-- those before them.
pub readings_same : (s : State) (n : ℕ) (d e : List ℕ) → s.entered.delivered ≡ take n d → s.entered.received ≡ take n e
    → registers_of d e ≡ with_readings s (registers_of d e)
unfolding with_readings
readings_same s n d e p q = sym (rw (p, q, sets-front n d, sets-front n e))

pub readings_again : (s : State) (r : Registers) → with_readings s (with_readings s r) ≡ with_readings s r
unfolding with_readings
readings_again s r = rw (sets-again r.delivered 0 s.entered.delivered, sets-again r.received 0 s.entered.received)

pub readings_over : (s t : State) (xs ys : List ℕ) (r : Registers) → t.entered.delivered ≡ s.entered.delivered ++ xs
    → t.entered.received ≡ s.entered.received ++ ys → with_readings t (with_readings s r) ≡ with_readings t r
unfolding with_readings
readings_over s t xs ys r p q =
    rw (p, q, sets_over r.delivered 0 s.entered.delivered xs, sets_over r.received 0 s.entered.received ys)

-- Where bytes are cut makes no difference.
pub cut_registers : (x : SoFar) (bytes more : List ℕ) (r : Registers)
    → registers_after x (bytes ++ more) r ≡ registers_after (after x bytes) more (registers_after x bytes r)
unfolding after registers_after
cut_registers x [] more r = refl
cut_registers x (b ∷ bytes) more r = cut_registers (after_byte x b) bytes more (with_readings (after_byte x b).state r)
