-- Items written from a place on: those that fit are copied, and the others have no place.
use Rattle.std.proofs.Common.{◌≡◌, ℕ, ◌+◌, ◌-◌, ◌<◌, ◌≤◌, min, Bool, true, false, List, length, take, drop, refl, sym, ◌∙◌, append_assoc, arith}
use Rattle.std.proofs.lemmas.List.{take-append-drop, length-take-le, drop-drop}
use Rattle.std.proofs.lemmas.List.Edits.{sets, sets-eq}
use Rattle.std.proofs.Math.Seq.{length-sets, take_all}
use Rattle.std.proofs.Math.Nat.{min-eq_left, min-eq_right, le_of_lt}
use borrow.Author.Tests.{leb-true, leb-false}
use lib.Dec.{leb}
use Rattle.text.proofs.Lists.{sets-append, sets-out}
use borrow.Rule.Slice.PartMut.{put_mid}

-- A part that fits.
put_part : {A : Type 0} (buffer part : List A) (start : ℕ) → start + length part ≤ length buffer → put_mid start (length part) buffer part ≡ sets buffer start part
put_part buffer part start h = rw (drop-drop (length part) start buffer, sets-eq part buffer start h, append_assoc (take start buffer) part (drop (start + length part) buffer))

pub copied : {A : Type 0} (buffer items part : List A) (start fit : ℕ) → start < length buffer → fit ≡ min (length items) (length buffer - start) → part ≡ take fit items
    → put_mid start (start + fit - start) buffer part ≡ sets buffer start items
copied buffer items part start fit inside f p = by (leb (length items) (length buffer - start)) refl
  where
    size : start + fit - start ≡ fit
    size = omega arith

    by : (t : Bool) → leb (length items) (length buffer - start) ≡ t → put_mid start (start + fit - start) buffer part ≡ sets buffer start items
    by true e =
        let all : fit ≡ length items = f ∙ min-eq_left (leb-true _ _ e) in
        let same : part ≡ items = p ∙ take_all fit items (omega arith) in
        rw (size, all, same) (put_part buffer items start (omega (arith, leb-true _ _ e)))
    by false e =
        let most : fit ≡ length buffer - start = f ∙ min-eq_right (le_of_lt (leb-false _ _ e)) in
        let long : length part ≡ fit = rw p (length-take-le fit items (omega (arith, leb-false _ _ e))) in
        let rest : sets buffer start items ≡ sets buffer start part =
        rw (← (take-append-drop fit items), ← p, sets-append buffer start part (drop fit items))
        (sets-out (sets buffer start part) (start + length part) (drop fit items) (rw (length-sets buffer start part) (omega arith))) in
        rw (size, ← long, rest) (put_part buffer part start (omega arith))

-- Past the end there is nothing to write.
pub none_written : {A : Type 0} (buffer items : List A) (start : ℕ) → length buffer ≤ start → buffer ≡ sets buffer start items
none_written buffer items start h = sym (sets-out buffer start items h)
