-- Columns written from the right, and bytes one by one.
use mathlib.Core.Path.{◌≡◌, refl, sym, ◌∙◌, ap}
use mathlib.Core.List.{List, [], ◌∷◌, ◌++◌}
use Prim.Native.Nat.{ℕ, zero, suc, ◌+◌, ◌-◌, ◌≤◌, ◌<◌}
use native.Mathlib.Numerals.{add-one}
use native.Mathlib.Omega.{arith}
use lib.ListN.{length, take, drop, length-append}
use Rattle.std.proofs.lemmas.List.{length-take-le}
use lib.Seq.{sets, take-add}
use Rattle.text.proofs.Lists.{sets-append}
use Rattle.printing.specs.Writing.{Wrote}
use Rattle.printing.proofs.Writing.{wrote_front}
use Rattle.table.specs.Filling.{column_byte, column_rest, column}

-- A column has its width.
pub column_length : (w j n : ℕ) → length (column w j n) ≡ w
unfolding column
column_length zero j n = refl
column_length (suc w) j n = let h = column_length w (suc j) (column_rest j n) in rw length-append (omega arith)

-- No byte of a column is written,
pub column_none : (o : List ℕ) (j n : ℕ) → length o ≡ 0 → o ≡ column (length o) j n
unfolding column
column_none [] j n e = refl
column_none (x ∷ o) j n e = absurd (omega arith)

-- or its last and those before it.
pub column_more : {part : List ℕ} {m b : ℕ} (rest o : List ℕ) (j n : ℕ) → length rest + 1 ≡ length o → m ≡ column_rest j n → b ≡ column_byte j n
    → part ≡ column (length rest) (j + 1) m → part ++ b ∷ [] ≡ column (length o) j n
unfolding column
column_more {part} {m} {b} rest o j n e em eb p =
    let long : length o ≡ suc (length rest) = omega arith in
    let same : part ≡ column (length rest) (suc j) (column_rest j n) = rw (add-one, em) at p in
    rw (long, eb, same) refl

-- A column of w bytes at the front.
pub column_wrote : {o part : List ℕ} (w j n : ℕ) → w ≤ length o → part ≡ column (length (take w o)) j n
    → Wrote o 0 (column w j n) (part ++ drop w o) w
column_wrote {o} {part} w j n h p =
    let same : part ≡ column w j n = rw (length-take-le w o h) at p in
    rw (column_length w j n) at (wrote_front {o = o} same refl (omega (arith, column_length w j n)))

-- A byte more is written behind those that are.
pub one_more : (l bytes : List ℕ) (i : ℕ) → i < length bytes
    → sets (sets l 0 (take i bytes)) i (take (i + 1 - i) (drop i bytes)) ≡ sets l 0 (take (i + 1) bytes)
one_more l bytes i h =
    let one : i + 1 - i ≡ 1 = omega arith in
    let long : 0 + length (take i bytes) ≡ i = omega (arith, length-take-le i bytes (omega arith)) in
    rw one
    (sym (ap (sets l 0) (take-add i 1 bytes) ∙ sets-append l 0 (take i bytes) (take 1 (drop i bytes))
    ∙ ap (λ (n : ℕ). sets (sets l 0 (take i bytes)) n (take 1 (drop i bytes))) long))
