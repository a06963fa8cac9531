-- Readings stored behind others, over plain values.
use mathlib.Core.Path.{◌≡◌, sym, ◌∙◌, ap}
use mathlib.Core.List.{List, ◌++◌, append_assoc}
use Prim.Native.Nat.{ℕ, ◌+◌, ◌-◌, ◌≤◌}
use native.Mathlib.Nat.{zero-add}
use native.Mathlib.Omega.{arith}
use borrow.Rule.Slice.PartMut.{put_mid, mid_of}
use lib.ListN.{length, take, drop, replicate, length-replicate, length-append, length-take, length-drop}
use lib.Seq.{sets, sets-eq, length-take-le, drop-drop}
use Rattle.std.proofs.lemmas.Slice.{take-put_mid}

-- ys stand behind the first readings.
module _ (l ys : List ℕ) (from k : ℕ) (h : from + k ≤ length l) (e : length ys ≡ k) where
  pub stored_front : take (from + k) (put_mid from k l ys) ≡ take from l ++ ys
  stored_front = take-put_mid from k l ys (from + k) (omega arith) (omega arith)

  pub stored_past : put_mid from k l ys ≡ sets l 0 (take (from + k) (put_mid from k l ys))
  stored_past =
      let long : length (take from l ++ ys) ≡ from + k = length-append (take from l) ys ∙ rw (length-take-le from l (omega arith), e) in
      rw stored_front (rw (sets-eq (take from l ++ ys) l 0 (omega arith), long, zero-add)
      (ap (λ (past : List ℕ). take from l ++ (ys ++ past)) (drop-drop k from l) ∙ sym (append_assoc (take from l) ys (drop (from + k) l))))

-- So many equal readings.
module _ (l ys : List ℕ) (from count v : ℕ) (h : from + count ≤ length l)
    (e : ys ≡ replicate (length (mid_of from (from + count - from) l)) v) where
  more : from + count - from ≡ count
  more = omega arith

  same : length ys ≡ count
  same =
      let long = length-take (from + count - from) (drop from l) in
      let rest = length-drop from l in
      rw (e, length-replicate) (omega arith)

  equal : ys ≡ replicate count v
  equal = let long : length (mid_of from (from + count - from) l) ≡ count = sym (ap length e ∙ length-replicate (length (mid_of from (from + count - from) l)) v) ∙ same in rw (← long) e

  pub filled_front : take (from + count) (put_mid from (from + count - from) l ys) ≡ take from l ++ replicate count v
  filled_front = rw (more, ← equal) (stored_front l ys from count h same)

  pub filled_past : put_mid from (from + count - from) l ys ≡ sets l 0 (take (from + count) (put_mid from (from + count - from) l ys))
  filled_past = rw more (stored_past l ys from count h same)
