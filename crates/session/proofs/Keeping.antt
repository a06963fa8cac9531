-- The bytes that are kept of a line.
use mathlib.Core.Path.{◌≡◌, sym, ◌∙◌, ap}
use mathlib.Core.List.{List, ◌++◌}
use Prim.Native.Nat.{ℕ, ◌+◌, ◌-◌, ◌≤◌, min}
use native.Mathlib.Omega.{arith}
use lib.ListN.{length, take}
use lib.Seq.{take-append-add, length-take-le}
use borrow.Rule.Slice.PartMut.{put_mid}
use Rattle.std.proofs.lemmas.Slice.{take-put_mid}
use Rattle.std.proofs.lemmas.List.{take_min}
use Rattle.lines.specs.Feeding.{kept_bytes}
use Rattle.session.specs.Taking.{kept_of}

-- As many are kept behind those that are held as there is room for.
pub kept_behind : (line bytes : List ℕ) (more : ℕ) → length line ≤ kept_bytes → more ≡ min (kept_bytes - length line) (length bytes)
    → line ++ take more bytes ≡ kept_of line bytes
kept_behind line bytes more h e =
    let room : length line + (kept_bytes - length line) ≡ kept_bytes = omega arith in
    sym (
    ap (λ (n : ℕ). take n (line ++ bytes)) (sym room)
    ∙ take-append-add line bytes (kept_bytes - length line)
    ∙ ap (λ (l : List ℕ). line ++ l) (sym (ap (λ (n : ℕ). take n bytes) e ∙ take_min (kept_bytes - length line) bytes)))

-- They are copied behind those that are held, at the front of an array.
pub kept_more : (l ys bytes : List ℕ) (count more : ℕ) → count ≤ kept_bytes → length l ≡ kept_bytes → more ≡ min (kept_bytes - count) (length bytes)
    → ys ≡ take more bytes → take (count + more) (put_mid count (count + more - count) l ys) ≡ kept_of (take count l) bytes
kept_more l ys bytes count more h long e copied =
    let same : count + more - count ≡ more = omega arith in
    let held = length-take-le count l (omega arith) in
    let some = length-take-le more bytes (omega arith) in
    rw (same, copied)
    (take-put_mid count more l (take more bytes) (count + more) (omega arith) (omega arith)
    ∙ kept_behind (take count l) bytes more (omega (arith, held)) (rw held e))
