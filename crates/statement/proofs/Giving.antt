-- The bytes that were read, given to a session piece by piece, and the status after what they print.
use mathlib.Core.Path.{◌≡◌, refl, sym, ◌∙◌}
use mathlib.Core.Bool.{cond}
use mathlib.Core.List.{List, [], ◌∷◌, ◌++◌}
use Prim.Native.Nat.{ℕ, ◌≤◌, ◌<◌}
use native.Mathlib.Omega.{arith}
use borrow.Author.Tests.{le-leb}
use lib.Dec.{leb}
use lib.ListN.{length, take, drop, take-append-drop}
use lib.Seq.{sets}
use Rattle.printing.specs.Writing.{Wrote}
use Rattle.printing.proofs.Writing.{front_is}
use Rattle.lines.specs.Feeding.{SoFar, after, printed, ending, taken_of}
use Rattle.lines.proofs.Streams.{cut_text, cut_state, taken_some}
use Rattle.session.specs.declared.Session.{Session}
use Rattle.session.specs.Sessions.{so_far_of, least_room, Feeds, Finishes}
use Rattle.statement.specs.declared.Verdict.{Verdict}
use Rattle.statement.specs.Ending.{number_of}
use Rattle.statement.specs.Status.{status_from}
use Rattle.statement.specs.Giving.{Tells, Gives}
use Rattle.statement.proofs.Lines.{status_cut, status_none}
use Rattle.statement.proofs.Texts.{printed_ends}

-- Printed bytes are told in two parts.
pub told_cut : (s : ℕ) (x : SoFar) (bytes more : List ℕ)
    → status_from (status_from s (printed x bytes)) (printed (after x bytes) more) ≡ status_from s (printed x (bytes ++ more))
told_cut s x bytes more =
    sym (status_cut s (printed x bytes) (printed (after x bytes) more) (printed_ends x bytes)) ∙ rw (cut_text x bytes more)

-- What is left of the bytes leads from the session and the status so far to those after all.
pub record GivenSoFar (before : SoFar) (first : ℕ) (input rest : List ℕ) (current : SoFar) (status : ℕ) : Type 0 where
  pub stands : after current rest ≡ after before input
  pub tells : status_from status (printed current rest) ≡ status_from first (printed before input)

pub given_none : (before : SoFar) (status : ℕ) (input : List ℕ) → GivenSoFar before status input input before status
given_none before status input = record { stands = refl; tells = refl }

-- A session is fed with what is left: it takes some of it where there is room enough,
pub given_some : (current : SoFar) (rest out : List ℕ) {taken : ℕ} → least_room ≤ length out → 0 < length rest
    → taken ≡ cond (leb least_room (length out)) (taken_of (length out) current rest) 0 → 0 < taken
given_some current rest out room some e =
    let takes = rw (le-leb least_room (length out) room) at e in
    omega (arith, takes, taken_some (length out) current rest (omega arith) some)

-- and what it prints is told.
pub given_more : {before : SoFar} {x y : Session} {input rest out out_later : List ℕ} {taken written first : ℕ} (verdict later : Verdict)
    → GivenSoFar before first input rest (so_far_of x) (number_of verdict) → Feeds x rest out taken y written out_later
    → Tells verdict (take written out_later) later
    → GivenSoFar before first input (drop taken rest) (so_far_of y) (number_of later)
given_more {x = x} {rest = rest} {taken = taken} verdict later given fed told =
    let current = so_far_of x in
    let all = take-append-drop taken rest in
    let text = front_is fed.text fed.fits in
    record {
      stands = rw fed.stands (sym (cut_state current (take taken rest) (drop taken rest)) ∙ rw all given.stands);
      tells = rw (told, text, fed.stands) (told_cut (number_of verdict) current (take taken rest) (drop taken rest) ∙ rw all given.tells);
    }

-- All are.
pub given_all : {before current : SoFar} {input rest : List ℕ} (verdict later : Verdict)
    → GivenSoFar before (number_of verdict) input rest current (number_of later) → length rest ≡ 0 → Gives before verdict input current later
unfolding after printed
given_all {rest = []} verdict later given e = record { stands = given.stands; tells = sym (status_none _) ∙ given.tells }
given_all {rest = b ∷ rest} verdict later given e = absurd (omega arith)

-- What is written at the end of the input is its ending.
pub ending_written : {x y : Session} {out out_later : List ℕ} {written : ℕ} → least_room ≤ length out → Finishes x out y written out_later
    → take written out_later ≡ ending (so_far_of x)
ending_written {x} {out = out} {out_later = out_later} {written = written} room f =
    let yes = le-leb least_room (length out) room in
    let bytes : out_later ≡ sets out 0 (ending (so_far_of x)) = rw yes at f.bytes in
    let long : written ≡ length (ending (so_far_of x)) = rw yes at f.end in
    let wrote : Wrote out 0 (ending (so_far_of x)) out_later written = record { bytes = bytes; end = omega arith } in
    front_is wrote f.fits
