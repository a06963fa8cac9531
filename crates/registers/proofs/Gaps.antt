-- 02 No. 4 as a reader finds it there: what a gap counts as, and that all which a bill reads from a register is taken from the filled readings.
use mathlib.Core.Path.{◌≡◌, refl, sym, ◌∙◌}
use mathlib.Core.Bool.{Bool, true, false, cond}
use mathlib.Core.List.{List}
use Prim.Native.Nat.{ℕ, zero, suc, ◌+◌, ◌*◌, ◌/◌, ◌<◌}
use native.Mathlib.Nat.{add-zero, add_assoc}
use native.Mathlib.Numerals.{add-one}
use native.Mathlib.Omega.{arith}
use borrow.Author.Tests.{eq-eqb, ne_eqb}
use lib.Dec.{eqb}
use lib.ListN.{get_or}
use Rattle.calendar.specs.Calendar.{days_in, day_length, readings_through}
use Rattle.registers.specs.Registers.{reading, lost_mark, is_lost, last_known, counts_as, day_sum, days_sum, sum_of, pair_sum, day_largest, days_largest, demand_power}
use Rattle.registers.proofs.Laws.{known_more}

-- Where reading j isn't the mark and the k after it are, the last of them counts as reading j. (Where k is 0, that is reading j itself.)
pub gap_filled : (r : List ℕ) (j k : ℕ) → (get_or r j 0 ≡ 4294967295 → ⊥) → ((i : ℕ) → i < k → get_or r (j + (i + 1)) 0 ≡ 4294967295)
    → counts_as r (j + k) ≡ get_or r j 0
unfolding counts_as is_lost reading
gap_filled r j zero e lost = rw (add-zero, ne_eqb _ _ e)
gap_filled r j (suc k) e lost =
    let next : j + suc k ≡ j + (k + 1) = rw add-one in
    rw (next, eq-eqb _ _ (lost k (omega arith)), ← (add_assoc j k 1), known_more) (gap_filled r j k e (λ i h. lost i (omega arith)))

-- No reading counts as the mark.
one_of : (b : Bool) (v w : ℕ) → eqb v lost_mark ≡ false → eqb w lost_mark ≡ b → eqb (cond b v w) lost_mark ≡ false
one_of true v w known e = known
one_of false v w known e = e

known_no_mark : (r : List ℕ) (i : ℕ) → eqb (last_known r i) lost_mark ≡ false
unfolding last_known is_lost
known_no_mark r zero = refl
known_no_mark r (suc i) = one_of (eqb (reading r i) lost_mark) (last_known r i) (reading r i) (known_no_mark r i) refl

-- A register f that has in each place what r counts as there: day by day its sums and its largest pair are those of r.
abbrev Filled : List ℕ → List ℕ → Type 0
Filled r f = (i : ℕ) → get_or f i 0 ≡ counts_as r i

counts_alike : (r f : List ℕ) → Filled r f → (i : ℕ) → counts_as f i ≡ counts_as r i
unfolding counts_as is_lost reading
counts_alike r f filled i = rw (filled i ∙ sym (known_more r i), known_no_mark r (i + 1)) (known_more r i)

sum_alike : (schedule : List ℕ) (m x : ℕ) (r f : List ℕ) → Filled r f → (p n j : ℕ) → day_sum schedule m x f p n j ≡ day_sum schedule m x r p n j
unfolding day_sum
sum_alike schedule m x r f filled p n zero = refl
sum_alike schedule m x r f filled p n (suc j) = rw (sum_alike schedule m x r f filled p n j, counts_alike r f filled (readings_through m n + j))

days_sum_alike : (schedule : List ℕ) (m x : ℕ) (r f : List ℕ) → Filled r f → (p n : ℕ) → days_sum schedule m x f p n ≡ days_sum schedule m x r p n
unfolding days_sum
days_sum_alike schedule m x r f filled p zero = refl
days_sum_alike schedule m x r f filled p (suc n) =
    rw (days_sum_alike schedule m x r f filled p n, sum_alike schedule m x r f filled p n (day_length m (suc n)))

pair_alike : (m : ℕ) (r f : List ℕ) → Filled r f → (n h : ℕ) → pair_sum m f n h ≡ pair_sum m r n h
unfolding pair_sum
pair_alike m r f filled n h = rw (counts_alike r f filled (readings_through m n + 2 * h), counts_alike r f filled (readings_through m n + (2 * h + 1)))

largest_alike : (schedule : List ℕ) (m x : ℕ) (r f : List ℕ) → Filled r f → (n h : ℕ) → day_largest schedule m x f n h ≡ day_largest schedule m x r n h
unfolding day_largest
largest_alike schedule m x r f filled n zero = refl
largest_alike schedule m x r f filled n (suc h) = rw (largest_alike schedule m x r f filled n h, pair_alike m r f filled n h)

days_largest_alike : (schedule : List ℕ) (m x : ℕ) (r f : List ℕ) → Filled r f → (n : ℕ) → days_largest schedule m x f n ≡ days_largest schedule m x r n
unfolding days_largest
days_largest_alike schedule m x r f filled zero = refl
days_largest_alike schedule m x r f filled (suc n) =
    rw (days_largest_alike schedule m x r f filled n, largest_alike schedule m x r f filled n (day_length m (suc n) / 2))

-- "Sums, the demand reading and the exported and delivered totals of the ledger are all taken from the filled readings": the sums and the demand's
-- power of a register are those of the register filled.
pub filled_alike : (schedule : List ℕ) (m x : ℕ) (r f : List ℕ) → ((i : ℕ) → get_or f i 0 ≡ counts_as r i)
    → ((p : ℕ) → sum_of schedule m x r p ≡ sum_of schedule m x f p) × (demand_power schedule m x r ≡ demand_power schedule m x f)
unfolding sum_of demand_power
filled_alike schedule m x r f e =
    (λ p. sym (days_sum_alike schedule m x r f e p (days_in m)), rw (days_largest_alike schedule m x r f e (days_in m)))
