-- Parts of the text, added one after the other.
use mathlib.Core.Path.{◌≡◌, refl, sym, ◌∙◌}
use mathlib.Core.Bool.{Bool, true, false}
use mathlib.Core.List.{List, ◌++◌}
use Prim.Native.Nat.{ℕ, ◌+◌, ◌≤◌, ◌<◌, min}
use native.Mathlib.Omega.{arith}
use borrow.Author.Tests.{le-leb, leb-true, leb-false}
use lib.Dec.{leb}
use lib.ListN.{length, take, length-append}
use lib.Seq.{sets, length-sets, length-take-le, take-take}
use Rattle.printing.specs.Writing.{Wrote}
use Rattle.printing.proofs.Writing.{front_is}
use Rattle.lines.specs.Statement.{last_number}
use Rattle.lines.specs.Feeding.{ending}
use Rattle.lines.proofs.Streams.{taken_some}
use Rattle.session.specs.declared.Session.{Session}
use Rattle.session.specs.Sessions.{so_far_of, least_room, Feeds, Finishes}
use Rattle.whole.specs.Adding.{Adds, FeedsSome}
use Rattle.text.proofs.Lists.{sets-append, sets-out}

-- A place that stays at the largest number is past the end, as the place further on would be.
past_end : (out xs : List ℕ) (i : ℕ) → length out ≤ last_number → sets out (min i last_number) xs ≡ sets out i xs
past_end out xs i h = by (leb i last_number) refl
  where
    by : (t : Bool) → leb i last_number ≡ t → sets out (min i last_number) xs ≡ sets out i xs
    by true e = let within : i ≤ last_number = leb-true _ _ e in let same : min i last_number ≡ i = omega arith in rw same
    by false e =
        let beyond : last_number < i = leb-false _ _ e in
        sets-out out (min i last_number) xs (omega arith) ∙ sym (sets-out out i xs (omega arith))

-- A part is added, and then another.
pub then : {text text1 text2 xs ys : List ℕ} {i j k : ℕ} → length text ≤ last_number → Adds text i xs text1 j → Adds text1 j ys text2 k
    → Adds text i (xs ++ ys) text2 k
then {text} {text1} {text2} {xs} {ys} {i} h p q =
    let long : length (sets text i xs) ≤ last_number = omega (arith, length-sets text i xs) in
    record {
      bytes = q.bytes ∙ rw (p.bytes, p.end) (past_end (sets text i xs) ys (i + length xs) long ∙ sym (sets-append text i xs ys));
      end = let e = p.end in let f = q.end in rw length-append (omega arith);
    }

module _ (x : Session) {y : Session} {chunk chunk_later text text_later : List ℕ} {i j written : ℕ} (room : least_room ≤ length chunk)
    (a : Adds text i (take written chunk_later) text_later j) where
  -- A session is fed a piece, and what it wrote is added. With so much room it takes some bytes.
  pub fed_some : (input : List ℕ) (piece : ℕ) {taken : ℕ} → piece ≡ min (length input) 65536
      → Feeds x (take piece input) chunk taken y written chunk_later → FeedsSome (so_far_of x) input text i taken (so_far_of y) text_later j
  fed_some input piece {taken} e f =
      let long : length (take piece input) ≡ piece = length-take-le piece input (omega arith) in
      let within : taken ≤ piece = omega (arith, f.inside) in
      let takes = rw (le-leb least_room (length chunk) room) at f.takes in
      let bytes = take-take taken piece input within in
      record {
        some = λ h. omega (arith, takes, taken_some (length chunk) (so_far_of x) (take piece input) (omega arith) (omega arith));
        inside = omega arith;
        stands = rw bytes at f.stands;
        adds = rw bytes at (rw (front_is f.text f.fits) at a);
      }

  -- The end of the input likewise.
  pub finished : Finishes x chunk y written chunk_later → Adds text i (ending (so_far_of x)) text_later j
  finished f =
      let yes = le-leb least_room (length chunk) room in
      let bytes : chunk_later ≡ sets chunk 0 (ending (so_far_of x)) = rw yes at f.bytes in
      let long : written ≡ length (ending (so_far_of x)) = rw yes at f.end in
      let wrote : Wrote chunk 0 (ending (so_far_of x)) chunk_later written = record { bytes = bytes; end = omega arith } in
      rw (front_is wrote f.fits) at a
