-- A template filled in byte by byte.
use mathlib.Core.Path.{◌≡◌, refl, ◌∙◌, sym, ap}
use mathlib.Core.Bool.{Bool, true, false, cond}
use mathlib.Core.List.{List, [], ◌∷◌, ◌++◌}
use Prim.Native.Nat.{ℕ, suc, ◌+◌, ◌-◌, ◌/◌, ◌%◌, ◌≤◌, ◌<◌}
use native.Mathlib.Numerals.{add-one}
use native.Mathlib.Omega.{arith}
use borrow.Author.Tests.{eq-eqb, ne_eqb}
use lib.Dec.{eqb, ltb, lit≤}
use borrow.Rule.Slice.PartMut.{put_mid}
use lib.ListN.{length, get_or, take, drop, drop_of_length-le, length-append}
use lib.Seq.{sets, drop-cons, length-sets}
use Rattle.printing.specs.Text.{decimal}
use Rattle.printing.specs.Writing.{Wrote}
use Rattle.printing.proofs.Writing.{digits_length, wrote_part}
use Rattle.text.proofs.Lists.{sets-append}
use Rattle.table.specs.declared.Shown.{Shown}
use Rattle.table.specs.Filling.{cell_at, column, plain_value, shown_of, marked_by, filled_by, most_filled}
use Rattle.table.proofs.Writing.{column_length}

-- A number and what follows it have at most 28 bytes.
abbrev pub Fits : Shown → Type 0
Fits s = s.place + s.width ≤ 28

-- One of five numbers in columns, each of which fits.
one_fits : (a b c d : Bool) (s t u v w : Shown) → Fits s → Fits t → Fits u → Fits v → Fits w
    → Fits (cond a s (cond b t (cond c u (cond d v w))))
one_fits true b c d s t u v w hs ht hu hv hw = hs
one_fits false true c d s t u v w hs ht hu hv hw = ht
one_fits false false true d s t u v w hs ht hu hv hw = hu
one_fits false false false true s t u v w hs ht hu hv hw = hv
one_fits false false false false s t u v w hs ht hu hv hw = hw

shown_fits : (ns : List ℕ) (w k : ℕ) → w ≤ 28 → Fits (shown_of ns w k)
unfolding shown_of
shown_fits ns w k h =
    let cents = cell_at ns (35 + k / 3 % 2) in
    one_fits (ltb k 7) (ltb k 42) (eqb (k % 3) 0) (eqb (k % 3) 1) (record { value = 0; width = w - 13; place = 1 })
    (record { value = cell_at ns (k - 7); width = w; place = 0 })
    (record { value = cents / 100; width = w - 3; place = 0 })
    (record { value = cents / 10; width = 1; place = 0 })
    (record { value = cents; width = 1; place = 0 })
    (omega arith)
    (omega arith)
    (omega arith)
    (lit≤ tt)
    (lit≤ tt)

pub shows_fit : {s : Shown} (ns : List ℕ) (w k : ℕ) → s ≡ shown_of ns w k → w ≤ 28 → Fits s
shows_fit ns w k e h = rw e (shown_fits ns w k h)

-- What stands for a mark has at most 28 bytes.
one_of : (a : Bool) (x y : List ℕ) → length x ≤ 28 → length y ≤ 28 → length (cond a x y) ≤ 28
one_of true x y h l = h
one_of false x y h l = l

pub marked_length : (ns : List ℕ) (w k : ℕ) → w ≤ 28 → length (marked_by ns w k) ≤ 28
unfolding marked_by
marked_length ns w k h =
    let shown = shown_of ns w (k - 7) in
    one_of (ltb k 7) (decimal (plain_value ns (k % 4))) (column shown.width shown.place shown.value)
    (omega (arith, digits_length 20 (plain_value ns (k % 4))))
    (rw column_length (omega (arith, shown_fits ns w (k - 7) h)))

-- From place p of a template and mark k on, what is left is written from place j on, and there is room for it.
pub record Filling (f : ℕ → List ℕ) (what then t : List ℕ) (first : ℕ) (out₀ out : List ℕ) (j k p : ℕ) : Type 0 where
  pub kept : length out ≡ length out₀
  pub room : j + most_filled (drop p t) ≤ length out
  pub marks : k ≤ first + p
  pub bytes : sets out j (filled_by f what then k (drop p t)) ≡ sets out₀ 0 (filled_by f what then first t)
  pub end : j + length (filled_by f what then k (drop p t)) ≡ length (filled_by f what then first t)

-- At first the whole template is left.
pub starts : (f : ℕ → List ℕ) (what then t : List ℕ) (first : ℕ) (out : List ℕ) → most_filled t ≤ length out
    → Filling f what then t first out out 0 first 0
starts f what then t first out h = record { kept = refl; room = omega arith; marks = omega arith; bytes = refl; end = omega arith }

-- Once no byte of the template is left, all is written.
pub ends : {f : ℕ → List ℕ} {what then t out₀ out : List ℕ} {first j k p : ℕ} → Filling f what then t first out₀ out j k p → length t ≤ p
    → Wrote out₀ 0 (filled_by f what then first t) out j
unfolding filled_by
ends {t = t} {p = p} g h =
    let none = drop_of_length-le t h in
    record { bytes = rw none at g.bytes; end = let e = rw none at g.end in omega arith }

-- What stands for a byte of a template, and the room that it takes.
module _ (f : ℕ → List ℕ) (what then : List ℕ) (k b : ℕ) (t : List ℕ) where
  filled_mark : b ≡ 35 → filled_by f what then k (b ∷ t) ≡ f k ++ filled_by f what then (suc k) t
  unfolding filled_by
  filled_mark e = rw (eq-eqb b 35 e)

  filled_what : b ≡ 126 → filled_by f what then k (b ∷ t) ≡ what ++ filled_by f what then k t
  unfolding filled_by
  filled_what e = rw (ne_eqb b 35 (λ d. omega arith), eq-eqb b 126 e)

  filled_then : b ≡ 33 → filled_by f what then k (b ∷ t) ≡ then ++ filled_by f what then k t
  unfolding filled_by
  filled_then e = rw (ne_eqb b 35 (λ d. omega arith), ne_eqb b 126 (λ d. omega arith), eq-eqb b 33 e)

  filled_byte : (b ≡ 35 → ⊥) → (b ≡ 126 → ⊥) → (b ≡ 33 → ⊥) → filled_by f what then k (b ∷ t) ≡ (b ∷ []) ++ filled_by f what then k t
  unfolding filled_by
  filled_byte d e g = rw (ne_eqb b 35 d, ne_eqb b 126 e, ne_eqb b 33 g)

most_mark : (b : ℕ) (t : List ℕ) → b ≡ 35 → most_filled (b ∷ t) ≡ 28 + most_filled t
unfolding most_filled
most_mark b t e = rw (eq-eqb b 35 e)

most_what : (b : ℕ) (t : List ℕ) → b ≡ 126 → most_filled (b ∷ t) ≡ 80 + most_filled t
unfolding most_filled
most_what b t e = rw (ne_eqb b 35 (λ d. omega arith), eq-eqb b 126 e)

most_then : (b : ℕ) (t : List ℕ) → b ≡ 33 → most_filled (b ∷ t) ≡ 80 + most_filled t
unfolding most_filled
most_then b t e = rw (ne_eqb b 35 (λ d. omega arith), ne_eqb b 126 (λ d. omega arith), eq-eqb b 33 e)

most_byte : (b : ℕ) (t : List ℕ) → (b ≡ 35 → ⊥) → (b ≡ 126 → ⊥) → (b ≡ 33 → ⊥) → most_filled (b ∷ t) ≡ 1 + most_filled t
unfolding most_filled
most_byte b t d e g = rw (ne_eqb b 35 d, ne_eqb b 126 e, ne_eqb b 33 g)

module _ {f : ℕ → List ℕ} {what then t out₀ out : List ℕ} {first j k p : ℕ} (g : Filling f what then t first out₀ out j k p)
    (h : p < length t) where
  -- The template's bytes from place p on.
  ahead : drop p t ≡ get_or t p 0 ∷ drop (p + 1) t
  ahead = rw add-one (drop-cons t p 0 h)

  -- There is room for what stands for the next byte.
  pub room_mark : get_or t p 0 ≡ 35 → j + 28 + most_filled (drop (p + 1) t) ≤ length out
  room_mark e = let m = ap most_filled ahead ∙ most_mark _ (drop (p + 1) t) e in let r = g.room in omega arith

  pub room_what : get_or t p 0 ≡ 126 → j + 80 + most_filled (drop (p + 1) t) ≤ length out
  room_what e = let m = ap most_filled ahead ∙ most_what _ (drop (p + 1) t) e in let r = g.room in omega arith

  pub room_then : get_or t p 0 ≡ 33 → j + 80 + most_filled (drop (p + 1) t) ≤ length out
  room_then e = let m = ap most_filled ahead ∙ most_then _ (drop (p + 1) t) e in let r = g.room in omega arith

  pub room_byte : (get_or t p 0 ≡ 35 → ⊥) → (get_or t p 0 ≡ 126 → ⊥) → (get_or t p 0 ≡ 33 → ⊥)
      → j + 1 + most_filled (drop (p + 1) t) ≤ length out
  room_byte d e n = let m = ap most_filled ahead ∙ most_byte _ (drop (p + 1) t) d e n in let r = g.room in omega arith

  -- A text is written for it, in what is left of the buffer.
  then_text : {part : List ℕ} {e n : ℕ} (x : List ℕ)
      → filled_by f what then k (drop p t) ≡ x ++ filled_by f what then n (drop (p + 1) t)
      → n ≤ k + 1 → Wrote (take (length out - j) (drop j out)) 0 x part e → j ≤ length out
      → j + length x + most_filled (drop (p + 1) t) ≤ length out
      → Filling f what then t first out₀ (put_mid j (length out - j) out part) (j + e) n (p + 1)
  then_text {part} {e} {n} x q l v i r =
      let after = put_mid j (length out - j) out part in
      let w : Wrote out j x after (j + e) = wrote_part i v in
      let same : length after ≡ length out = ap length w.bytes ∙ length-sets out j x in
      let size = w.end in
      record {
        kept = same ∙ g.kept;
        room = omega arith;
        marks = let m = g.marks in omega arith;
        bytes = rw (w.bytes, w.end) (sym (sets-append out j x (filled_by f what then n (drop (p + 1) t))) ∙ rw q at g.bytes);
        end = let a = rw (q, length-append) at g.end in omega arith;
      }

  -- A mark's text, the parts of the reason, or the byte itself.
  pub then_mark : {part : List ℕ} {e : ℕ} → get_or t p 0 ≡ 35 → length (f k) ≤ 28 → Wrote (take (length out - j) (drop j out)) 0 (f k) part e
      → Filling f what then t first out₀ (put_mid j (length out - j) out part) (j + e) (k + 1) (p + 1)
  then_mark m l w =
      let r = room_mark m in
      let q = ap (filled_by f what then k) ahead ∙ filled_mark f what then k _ (drop (p + 1) t) m in
      rw (add-one k) (then_text (f k) q (omega arith) w (omega arith) (omega arith))

  pub then_what : {part : List ℕ} {e : ℕ} → get_or t p 0 ≡ 126 → length what ≤ 80 → Wrote (take (length out - j) (drop j out)) 0 what part e
      → Filling f what then t first out₀ (put_mid j (length out - j) out part) (j + e) k (p + 1)
  then_what m l w =
      let r = room_what m in
      let q = ap (filled_by f what then k) ahead ∙ filled_what f what then k _ (drop (p + 1) t) m in
      then_text what q (omega arith) w (omega arith) (omega arith)

  pub then_then : {part : List ℕ} {e : ℕ} → get_or t p 0 ≡ 33 → length then ≤ 80 → Wrote (take (length out - j) (drop j out)) 0 then part e
      → Filling f what then t first out₀ (put_mid j (length out - j) out part) (j + e) k (p + 1)
  then_then m l w =
      let r = room_then m in
      let q = ap (filled_by f what then k) ahead ∙ filled_then f what then k _ (drop (p + 1) t) m in
      then_text then q (omega arith) w (omega arith) (omega arith)

  pub then_byte : {part : List ℕ} {e : ℕ} → (get_or t p 0 ≡ 35 → ⊥) → (get_or t p 0 ≡ 126 → ⊥) → (get_or t p 0 ≡ 33 → ⊥)
      → Wrote (take (length out - j) (drop j out)) 0 (get_or t p 0 ∷ []) part e
      → Filling f what then t first out₀ (put_mid j (length out - j) out part) (j + e) k (p + 1)
  then_byte d m n w =
      let r = room_byte d m n in
      let q = ap (filled_by f what then k) ahead ∙ filled_byte f what then k _ (drop (p + 1) t) d m n in
      then_text (get_or t p 0 ∷ []) q (omega arith) w (omega arith) (omega arith)
