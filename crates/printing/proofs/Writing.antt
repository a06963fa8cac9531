-- Texts written byte by byte, and one after the other.
use mathlib.Core.Path.{◌≡◌, refl, ◌∙◌, sym, ap}
use mathlib.Core.List.{List, [], ◌∷◌, ◌++◌, append-nil}
use mathlib.Core.Bool.{Bool, true, false, not, cond}
use Prim.Native.Nat.{ℕ, zero, suc, ◌+◌, ◌-◌, ◌/◌, ◌%◌, ◌^◌, ◌≤◌, ◌<◌}
use native.Mathlib.Nat.{add-suc, add-zero, zero-add}
use native.Mathlib.Omega.{arith}
use borrow.Author.Tests.{lt-ltb, le-ltb, le-leb, lt-leb, leb-true, leb-false, not-true, not-false}
use borrow.Rule.Slice.PartMut.{put_mid}
use lib.Dec.{leb, ltb, lit≤}
use lib.ListN.{length, set, take, drop, length-append, length-drop, take-append-drop, drop_of_length-le}
use lib.Seq.{sets, take-append_seam}
use Rattle.std.specs.Fmt.{decimal as std_decimal}
use Rattle.std.proofs.lemmas.Fmt.{AppendsLastDigit, decimal_from_appends, length-decimal-le}
use Rattle.std.proofs.lemmas.List.{length-take-le, set-append_right, take_rest}
use Rattle.std.proofs.lemmas.List.Edits.{sets-eq}
use Rattle.text.proofs.Lists.{sets-append}
use Rattle.printing.specs.Text.{digit_byte, digits}
use Rattle.printing.specs.Writing.{fits, Wrote, PutIn}

-- A text is written, and then another.
pub then : {o o1 o2 xs ys : List ℕ} {i j k : ℕ} → Wrote o i xs o1 j → Wrote o1 j ys o2 k → Wrote o i (xs ++ ys) o2 k
then {o} {o1} {o2} {xs} {ys} {i} {j} {k} p q = record {
  bytes = q.bytes ∙ rw (p.bytes, p.end) (sym (sets-append o i xs ys));
  end = rw length-append (omega arith);
}

-- One byte is written.
pub one : (o : List ℕ) (i b : ℕ) → Wrote o i (b ∷ []) (set o i b) (i + 1)
one o i b = record { bytes = refl; end = refl }

-- One of two texts.
either : (t : Bool) (xs ys : List ℕ) (k : ℕ) → length xs ≤ k → length ys ≤ k → length (cond t xs ys) ≤ k
either true xs ys k h l = h
either false xs ys k h l = l

-- A number has at most as many digits as are asked for.
pub digits_length : (k n : ℕ) → length (digits k n) ≤ k
unfolding digits
digits_length zero n = omega arith
digits_length (suc k) n =
    let h = digits_length k (n / 10) in
    either (ltb n 10) (digit_byte n ∷ []) (digits k (n / 10) ++ digit_byte (n % 10) ∷ []) (suc k) (omega arith)
    (rw length-append (omega arith))

-- Its digits are those that std writes.
appends : AppendsLastDigit digits
unfolding digits
appends = record { one = λ k n h. rw (lt-ltb n 10 h); more = λ k n h. rw (le-ltb n 10 h) }

pub std_digits : (n : ℕ) → n < 2 ^ 64 → std_decimal n ≡ digits 20 n
std_digits n h = sym (decimal_from_appends digits appends 20 n h (length-decimal-le 20 n (lit≤ tt) (omega arith) h))

-- A text is copied to the front.
pub wrote_front : {o xs copy text : List ℕ} → copy ≡ text → text ≡ xs → length xs ≤ length o
    → Wrote o 0 xs (copy ++ drop (length text) o) (length text)
wrote_front {o} {xs} d e h = rw (d, e) record { bytes = sym (rw zero-add at (sets-eq xs o 0 (omega arith))); end = omega arith }

-- What was written to the front of a buffer stands there, where it fits.
pub front_is : {o xs o_later : List ℕ} {n : ℕ} → Wrote o 0 xs o_later n → n ≤ length o → take n o_later ≡ xs
front_is {o} {xs} {n = n} w h =
    let e : n ≡ length xs = omega (arith, w.end) in
    rw (w.bytes, e, sets-eq xs o 0 (omega arith)) (take-append_seam xs (drop (0 + length xs) o))

-- A text behind others is stored in what follows them.
sets_behind : (xs a b : List ℕ) (k : ℕ) → sets (a ++ b) (length a + k) xs ≡ a ++ sets b k xs
sets_behind [] a b k = refl
sets_behind (x ∷ xs) a b k =
    let here : set (a ++ b) (length a + k) x ≡ a ++ set b k x =
    set-append_right a b (length a) (length a + k) x refl (omega arith) ∙ (let e : length a + k - length a ≡ k = omega arith in rw e) in
    rw (here, ← (add-suc (length a) k)) (sets_behind xs a (set b k x) (suc k))

-- So a text at the front of the rest of a buffer stands behind what comes before the rest.
pub wrote_part : {o part xs : List ℕ} {i n : ℕ} → i ≤ length o → Wrote (take (length o - i) (drop i o)) 0 xs part n
    → Wrote o i xs (put_mid i (length o - i) o part) (i + n)
wrote_part {o} {part} {xs} {i} {n} h w =
    let rest = drop i o in
    let size : length (take i o) + 0 ≡ i = omega (arith, length-take-le i o h) in
    let behind : sets o i xs ≡ take i o ++ sets rest 0 xs =
    rw size at (rw (take-append-drop i o) at (sets_behind xs (take i o) rest 0)) in
    let none : drop (length o - i) rest ≡ [] = drop_of_length-le rest (omega (arith, length-drop i o)) in
    record {
      bytes = rw (none, append-nil, w.bytes, take_rest o i) (sym behind);
      end = let e = w.end in omega arith;
    }

-- Nothing fits that is longer than the buffer.
pub fits_not : (room : ℕ) (out : List ℕ) (i : ℕ) → length out < room → false ≡ fits room out i
unfolding fits
fits_not room out i h = sym (lt-leb (i + room) (length out) (omega arith))

-- At the front only the length is asked.
pub fits_front : (room : ℕ) (out : List ℕ) → leb room (length out) ≡ fits room out 0
unfolding fits
fits_front room out = rw zero-add

module _ {room : ℕ} {out : List ℕ} {i : ℕ} where
  -- Without room nothing is put.
  pub put_none : {text : List ℕ} {r : Bool} → r ≡ fits room out i → not r ≡ true → PutIn room out i text out i
  put_none {text} {r} e f =
      let no = sym e ∙ not-true r f in
      record {
        bytes = sym (ap (λ (b : Bool). cond b (sets out i text) out) no);
        end = sym (ap (λ (b : Bool). cond b (i + length text) i) no);
      }

  -- With room a text is put that is written,
  pub put_wrote : {text after : List ℕ} {j : ℕ} {r : Bool} → r ≡ fits room out i → not r ≡ false → Wrote out i text after j
      → PutIn room out i text after j
  put_wrote {r = r} e t w = let yes = sym e ∙ not-false r t in record { bytes = rw yes w.bytes; end = rw yes w.end }

  -- and written that is put.
  pub put_there : {text after : List ℕ} {j : ℕ} → i + room ≤ length out → PutIn room out i text after j → Wrote out i text after j
  unfolding fits
  put_there h w = let yes = le-leb (i + room) (length out) h in record { bytes = rw yes at w.bytes; end = rw yes at w.end }

-- Where so many bytes fit, they are there,
pub room_for : (room : ℕ) (out : List ℕ) (i : ℕ) {r : Bool} → r ≡ fits room out i → not r ≡ false → i + room ≤ length out
unfolding fits
room_for room out i {r} e f = leb-true (i + room) (length out) (sym e ∙ not-false r f)

-- also as the rest of the buffer.
pub rest_room : (room : ℕ) (out : List ℕ) (i : ℕ) → i + room ≤ length out → room ≤ length (take (length out - i) (drop i out))
rest_room room out i h = rw take_rest (omega (arith, length-drop i out))

-- The front of a buffer that is too short stays, and one that is long enough has what was written.
pub put_short : {text : List ℕ} (room : ℕ) (out : List ℕ) → length out < room → PutIn room out 0 text out 0
put_short room out h = put_none (fits_not room out 0 h) refl

pub put_long : {text after : List ℕ} {j : ℕ} (room : ℕ) (out : List ℕ) → room ≤ length out → Wrote out 0 text after j
    → PutIn room out 0 text after j
unfolding fits
put_long room out h w = put_wrote (sym (le-leb (0 + room) (length out) (omega arith))) refl w

-- Two tests agree where each outcome of the first is one of the second.
same_test : (a b : Bool) → (a ≡ true → b ≡ true) → (a ≡ false → b ≡ false) → a ≡ b
same_test true b f g = sym (f refl)
same_test false b f g = sym (g refl)

-- What fits at the front of the rest of a buffer fits there in the whole.
pub fits_rest : (room : ℕ) (out : List ℕ) (i : ℕ) → i ≤ length out → fits room (take (length out - i) (drop i out)) 0 ≡ fits room out i
unfolding fits
fits_rest room out i h =
    let size = length-drop i out in
    rw take_rest
    (same_test (leb (0 + room) (length (drop i out))) (leb (i + room) (length out))
    (λ t. le-leb (i + room) (length out) (omega (arith, leb-true (0 + room) (length (drop i out)) t)))
    (λ t. lt-leb (i + room) (length out) (omega (arith, leb-false (0 + room) (length (drop i out)) t))))

-- So what was put at the front of the rest was put there in the whole.
pub put_rest : {part text : List ℕ} {n : ℕ} (room : ℕ) (out : List ℕ) (i : ℕ) → i ≤ length out
    → PutIn room (take (length out - i) (drop i out)) 0 text part n
    → PutIn room out i text (put_mid i (length out - i) out part) (i + n)
put_rest {part} {text} {n} room out i h w = by (fits room out i) refl (rw (fits_rest room out i h) at w.bytes) (rw (fits_rest room out i h) at w.end)
  where
    rest : List ℕ
    rest = take (length out - i) (drop i out)

    same : put_mid i (length out - i) out rest ≡ out
    same =
        let none : drop (length out - i) (drop i out) ≡ [] = drop_of_length-le (drop i out) (omega (arith, length-drop i out)) in
        rw (take_rest, none, append-nil) (take-append-drop i out)

    by : (t : Bool) → fits room out i ≡ t → part ≡ cond t (sets rest 0 text) rest → n ≡ cond t (0 + length text) 0
        → PutIn room out i text (put_mid i (length out - i) out part) (i + n)
    by true e p q = put_wrote (sym e) refl (wrote_part h (record { bytes = p; end = q }))
    by false e p q = rw (p, q, same, add-zero) (put_none (sym e) refl)
