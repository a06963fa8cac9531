-- What a session has taken and written so far, line by line.
use mathlib.Core.Path.{◌≡◌, refl, sym, ◌∙◌, ap}
use mathlib.Core.Bool.{Bool, true, false, false≢true, not}
use mathlib.Core.List.{List, [], ◌∷◌, ◌++◌}
use Prim.Native.Nat.{ℕ, zero, suc, ◌+◌, ◌-◌, ◌≤◌, ◌<◌}
use native.Mathlib.Nat.{sub-zero}
use native.Mathlib.Omega.{arith}
use borrow.Author.Tests.{le-leb, lt-leb, leb-true, leb-false, not-true, not-false}
use lib.Dec.{eqb, leb}
use lib.ListN.{length, take, drop, length-take, length-drop}
use lib.Seq.{length-sets, take-add, drop-drop}
use Rattle.printing.specs.Writing.{fits, has_room, Wrote}
use Rattle.lines.specs.Feeding.{after, printed, taken_of, registers_after}
use Rattle.session.specs.declared.Session.{Session}
use Rattle.session.specs.Sessions.{so_far_of, registers_of, least_room, Feeds}
use Rattle.session.specs.Taking.{Takes}
use borrow.Rule.Slice.PartMut.{put_mid}
use Rattle.printing.proofs.Writing.{then, wrote_part}
use Rattle.lines.proofs.Buffers.{cut_registers}
use Rattle.lines.proofs.Streams.{cut_text, cut_state}
use Rattle.session.proofs.Taking.{none_taken}

pub record Going (x : Session) (input out : List ℕ) (taken : ℕ) (rest : List ℕ) (y : Session) (written : ℕ) (out_current : List ℕ) : Type 0 where
  pub takes : taken_of (length out) (so_far_of x) input ≡ taken + taken_of (length out - written) (so_far_of y) rest
  pub left : rest ≡ drop taken input
  pub stands : so_far_of y ≡ after (so_far_of x) (take taken input)
  pub registers : registers_of y ≡ registers_after (so_far_of x) (take taken input) (registers_of x)
  pub text : Wrote out 0 (printed (so_far_of x) (take taken input)) out_current written
  pub inside : taken ≤ length input
  pub fits : written ≤ length out
  pub room : least_room ≤ length out

-- With less room than for two texts nothing is taken.
pub none_fed : (x : Session) (input out : List ℕ) → length out < least_room → Feeds x input out 0 x 0 out
unfolding after printed registers_after
none_fed x input out h =
    record {
      takes = rw (lt-leb least_room (length out) h);
      stands = refl;
      registers = refl;
      text = record { bytes = refl; end = refl };
      inside = omega arith;
      fits = omega arith;
    }

-- At the start.
pub going_start : (x : Session) (input out : List ℕ) → least_room ≤ length out → Going x input out 0 input x 0 out
unfolding after printed registers_after
going_start x input out h =
    record {
      room = h;
      takes = rw (sub-zero (length out)) (omega arith);
      left = refl;
      stands = refl;
      registers = refl;
      text = record { bytes = refl; end = refl };
      inside = omega arith;
      fits = omega arith;
    }

pub same_long : {x y : Session} {input out rest out_current : List ℕ} {taken written : ℕ}
    → Going x input out taken rest y written out_current → length out_current ≡ length out
same_long g = ap length g.text.bytes ∙ simp length-sets

-- What was taken is as long as the rest is shorter than the input.
pub going_left : {x y : Session} {input out rest out_current : List ℕ} {taken written : ℕ}
    → Going x input out taken rest y written out_current → Going x input out (length input - length rest) rest y written out_current
going_left {input = input} {rest = rest} {taken = taken} g =
    let same : length input - length rest ≡ taken = omega (arith, g.inside, ap length g.left ∙ length-drop taken input) in
    rw same g

room_left : (out : List ℕ) (i : ℕ) → has_room out i ≡ true → i + 1024 ≤ length out
unfolding fits
room_left out i h = leb-true _ _ h

no_room : (out : List ℕ) (i : ℕ) → has_room out i ≡ false → length out < i + 1024
unfolding fits
no_room out i h = leb-false _ _ h

pub room_yes : (out : List ℕ) (i : ℕ) (r : Bool) → r ≡ has_room out i → not r ≡ false → has_room out i ≡ true
room_yes out i r e f = sym e ∙ not-false r f

pub room_none : (out : List ℕ) (i : ℕ) (r : Bool) → r ≡ has_room out i → not r ≡ true → has_room out i ≡ false
room_none out i r e f = sym e ∙ not-true r f

-- The rest of a buffer has room where the buffer has it from there on.
room_part : (out : List ℕ) (i : ℕ) → i ≤ length out → has_room (take (length out - i) (drop i out)) 0 ≡ has_room out i
unfolding fits
room_part out i h = let e : length (take (length out - i) (drop i out)) ≡ length out - i = rw (length-take, length-drop) (omega arith) in
    rw e (by (leb (i + 1024) (length out)) refl)
  where
    by : (b : Bool) → leb (i + 1024) (length out) ≡ b → leb (0 + 1024) (length out - i) ≡ b
    by true p = let k = leb-true _ _ p in le-leb _ _ (omega arith)
    by false p = let k = leb-false _ _ p in lt-leb _ _ (omega arith)

pub part_yes : (out : List ℕ) (i : ℕ) (r : Bool) → i ≤ length out → r ≡ has_room (take (length out - i) (drop i out)) 0 → not r ≡ false → has_room out i ≡ true
part_yes out i r h e f = sym (room_part out i h) ∙ room_yes _ _ r e f

pub part_none : (out : List ℕ) (i : ℕ) (r : Bool) → i ≤ length out → r ≡ has_room (take (length out - i) (drop i out)) 0 → not r ≡ true → has_room out i ≡ false
part_none out i r h e f = sym (room_part out i h) ∙ room_none _ _ r e f

-- What is written to the front of the rest of a buffer is written behind what comes before it.
pub takes_part : (y z : Session) {input out part : List ℕ} {i t n : ℕ} → i ≤ length out → Takes y input (take (length out - i) (drop i out)) 0 t z n part
    → Takes y input out i t z (i + n) (put_mid i (length out - i) out part)
takes_part y z h w = record {
  some = w.some;
  inside = w.inside;
  stands = w.stands;
  registers = w.registers;
  text = wrote_part h w.text;
  short = w.short;
  rest = w.rest;
}

-- Some bytes more.
module _ {x y z : Session} {input out rest out_current out_later : List ℕ} {taken written t j : ℕ} where
  pub going_more : Going x input out taken rest y written out_current → has_room out_current written ≡ true
      → Takes y rest out_current written t z j out_later
      → Going x input out (taken + t) (drop t rest) z j out_later
  going_more g room l =
      let before = so_far_of x in
      let left : written + 1024 ≤ length out = omega (arith, room_left out_current written room, same_long g) in
      let text = printed (so_far_of y) (take t rest) in
      let short : length text ≤ 1024 = l.short in
      let both : take (taken + t) input ≡ take taken input ++ take t rest
      = take-add taken t input ∙ ap (λ (m : List ℕ). take taken input ++ take t m) (sym g.left) in
      let state : after before (take (taken + t) input) ≡ so_far_of z
      = rw (both, cut_state before (take taken input) (take t rest), ← g.stands) (sym l.stands) in
      let texts : printed before (take (taken + t) input) ≡ printed before (take taken input) ++ text
      = rw (both, cut_text before (take taken input) (take t rest), ← g.stands) in
      let registers : registers_after before (take (taken + t) input) (registers_of x) ≡ registers_after (so_far_of y) (take t rest) (registers_of y)
      = rw (both, cut_registers before (take taken input) (take t rest) (registers_of x), ← g.stands, g.registers) in
      let room_later : length out - written - length text ≡ length out - j = omega (arith, l.text.end) in
      let taken_later = l.rest (length out - written) (omega arith) in
      let long : length rest ≡ length input - taken = ap length g.left ∙ length-drop taken input in
      record {
        takes = let more = rw room_later at taken_later in omega (arith, g.takes);
        left = ap (drop t) g.left ∙ drop-drop t taken input;
        stands = sym state;
        registers = l.registers ∙ sym registers;
        text = rw texts (then g.text l.text);
        inside = omega (arith, long, l.inside, g.inside);
        fits = omega (arith, l.text.end);
        room = g.room;
      }

-- Nothing is left, or some bytes are.
pub some_left : {b : Bool} (n : ℕ) → b ≡ eqb n 0 → b ≡ false → 0 < n
some_left zero e f = absurd (false≢true (sym f ∙ e))
some_left (suc n) e f = omega arith

none_left : (rest : List ℕ) → length rest ≡ 0 → rest ≡ []
none_left [] h = refl
none_left (b ∷ rest) h = absurd (omega arith)

-- Without room, and at the end of the input, it stops.
module _ {x y : Session} {input out rest out_current : List ℕ} {taken written : ℕ} (g : Going x input out taken rest y written out_current) where
  going_here : taken_of (length out - written) (so_far_of y) rest ≡ 0 → Feeds x input out taken y written out_current
  going_here none = record {
    takes = rw (le-leb least_room (length out) g.room) (omega (arith, g.takes));
    stands = g.stands;
    registers = g.registers;
    text = g.text;
    inside = g.inside;
    fits = g.fits;
  }

  pub going_none : has_room out_current written ≡ false → Feeds x input out taken y written out_current
  going_none room =
      going_here (none_taken (length out - written) (so_far_of y) rest (omega (arith, no_room out_current written room, same_long g)))

  pub going_all : length rest ≡ 0 → Feeds x input out taken y written out_current
  unfolding taken_of
  going_all h = going_here (rw (none_left rest h))
