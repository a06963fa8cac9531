-- A template filled in byte by byte.
use mathlib.Core.Path.{◌≡◌, refl, ◌∙◌, sym, ap}
use mathlib.Core.List.{List, [], ◌∷◌, ◌++◌}
use Prim.Native.Nat.{ℕ, ◌+◌, ◌-◌, ◌≤◌, ◌<◌}
use native.Mathlib.Numerals.{add-one}
use native.Mathlib.Omega.{arith}
use borrow.Author.Tests.{eq-eqb, ne_eqb}
use borrow.Rule.Slice.PartMut.{put_mid}
use lib.ListN.{length, get_or, take, drop, set, drop_of_length-le, length-append, length-set}
use lib.Seq.{sets, drop-cons, length-sets}
use Rattle.std.proofs.lemmas.List.{nil_from_length}
use Rattle.printing.specs.Text.{decimal, filled_in, most_bytes}
use Rattle.printing.specs.Writing.{Wrote}
use Rattle.text.proofs.Lists.{sets-append}
use Rattle.printing.proofs.Writing.{digits_length, wrote_part}

-- From place p of a template on, with the numbers ms left, what is left is written from place j on, and there is room for it.
pub record Filling (t ns out₀ out : List ℕ) (j : ℕ) (ms : List ℕ) (p : ℕ) : Type 0 where
  pub kept : length out ≡ length out₀
  pub room : j + most_bytes (drop p t) ≤ length out
  pub bytes : sets out j (filled_in (drop p t) ms) ≡ sets out₀ 0 (filled_in t ns)
  pub end : j + length (filled_in (drop p t) ms) ≡ length (filled_in t ns)

-- A byte that is no mark is put as it is,
filled_byte : (b : ℕ) (t ns : List ℕ) → (b ≡ 35 → ⊥) → filled_in (b ∷ t) ns ≡ b ∷ filled_in t ns
unfolding filled_in
filled_byte b t [] f = rw (ne_eqb b 35 f)
filled_byte b t (n ∷ ns) f = rw (ne_eqb b 35 f)

-- nothing for a mark where no number is left,
filled_none : (b : ℕ) (t : List ℕ) → b ≡ 35 → filled_in (b ∷ t) [] ≡ filled_in t []
unfolding filled_in
filled_none b t e = rw (eq-eqb b 35 e)

-- and otherwise the next number.
filled_number : (b : ℕ) (t : List ℕ) (n : ℕ) (ns : List ℕ) → b ≡ 35 → filled_in (b ∷ t) (n ∷ ns) ≡ decimal n ++ filled_in t ns
unfolding filled_in
filled_number b t n ns e = rw (eq-eqb b 35 e)

-- The room that a byte and a mark take.
most_byte : (b : ℕ) (t : List ℕ) → (b ≡ 35 → ⊥) → most_bytes (b ∷ t) ≡ 1 + most_bytes t
unfolding most_bytes
most_byte b t f = rw (ne_eqb b 35 f)

most_mark : (b : ℕ) (t : List ℕ) → b ≡ 35 → most_bytes (b ∷ t) ≡ 20 + most_bytes t
unfolding most_bytes
most_mark b t e = rw (eq-eqb b 35 e)

-- At first the whole template is left.
pub starts : (t ns out : List ℕ) → most_bytes t ≤ length out → Filling t ns out out 0 ns 0
starts t ns out h = record { kept = refl; room = omega arith; bytes = refl; end = omega arith }

-- Once no byte of the template is left, all is written.
pub ends : {t ns out₀ out ms : List ℕ} {j p : ℕ} → Filling t ns out₀ out j ms p → length t ≤ p → Wrote out₀ 0 (filled_in t ns) out j
unfolding filled_in
ends {t} {p = p} g h =
    let none = drop_of_length-le t h in
    record { bytes = rw none at g.bytes; end = let e = rw none at g.end in omega arith }

module _ {t ns out₀ out ms : List ℕ} {j p : ℕ} (g : Filling t ns out₀ out j ms p) (h : p < length t) where
  -- The template's bytes from place p on.
  ahead : drop p t ≡ get_or t p 0 ∷ drop (p + 1) t
  ahead = rw add-one (drop-cons t p 0 h)

  -- There is room for the next byte,
  pub room_byte : (get_or t p 0 ≡ 35 → ⊥) → j + 1 + most_bytes (drop (p + 1) t) ≤ length out
  room_byte f = let e = ap most_bytes ahead ∙ most_byte _ (drop (p + 1) t) f in let r = g.room in omega arith

  -- and for the next number.
  pub room_mark : get_or t p 0 ≡ 35 → j + 20 + most_bytes (drop (p + 1) t) ≤ length out
  room_mark m = let e = ap most_bytes ahead ∙ most_mark _ (drop (p + 1) t) m in let r = g.room in omega arith

  -- A byte is written as it is,
  pub then_byte : (get_or t p 0 ≡ 35 → ⊥) → Filling t ns out₀ (set out j (get_or t p 0)) (j + 1) ms (p + 1)
  then_byte f =
      let e = ap (λ (l : List ℕ). filled_in l ms) ahead ∙ filled_byte _ (drop (p + 1) t) ms f in
      record {
        kept = length-set out j (get_or t p 0) ∙ g.kept;
        room = rw length-set (room_byte f);
        bytes = rw (add-one j) (rw e at g.bytes);
        end = let l = rw e at g.end in omega arith;
      }

  -- nothing for a mark where no number is left,
  pub then_none : {ls : List ℕ} → get_or t p 0 ≡ 35 → length ms ≡ 0 → ls ≡ ms → Filling t ns out₀ out j ls (p + 1)
  then_none {ls} m l s =
      let none : ms ≡ [] = nil_from_length ms l in
      let e = ap (λ (l : List ℕ). filled_in l []) ahead ∙ filled_none _ (drop (p + 1) t) m in
      rw (s, none)
      record {
        kept = g.kept;
        room = let r = room_mark m in omega arith;
        bytes = rw (none, e) at g.bytes;
        end = rw (none, e) at g.end;
      }

  -- and otherwise the digits of the next number, in what is left of the buffer.
  pub then_number : {part ls : List ℕ} {n q : ℕ} → get_or t p 0 ≡ 35 → ms ≡ n ∷ ls
      → Wrote (take (length out - j) (drop j out)) 0 (decimal n) part q
      → Filling t ns out₀ (put_mid j (length out - j) out part) (j + q) ls (p + 1)
  then_number {part} {ls} {n} {q} m s v =
      let rest = filled_in (drop (p + 1) t) ls in
      let r = room_mark m in
      let after = put_mid j (length out - j) out part in
      let w : Wrote out j (decimal n) after (j + q) = wrote_part (omega arith) v in
      let same : length after ≡ length out = ap length w.bytes ∙ length-sets out j (decimal n) in
      let f : filled_in (drop p t) ms ≡ decimal n ++ rest =
      rw (ahead, s) (filled_number _ (drop (p + 1) t) n ls m) in
      record {
        kept = same ∙ g.kept;
        room = let d = digits_length 20 n in let e = w.end in omega arith;
        bytes = rw (w.bytes, w.end) (sym (sets-append out j (decimal n) rest) ∙ rw f at g.bytes);
        end = let a = rw (f, length-append) at g.end in let b = w.end in omega arith;
      }
