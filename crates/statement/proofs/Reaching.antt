-- What was read so far and what it printed, from the start on.
use mathlib.Core.Path.{◌≡◌, sym, ◌∙◌, ap}
use mathlib.Core.Bool.{true}
use mathlib.Core.List.{List, [], ◌++◌, append-nil}
use Prim.Native.Nat.{ℕ}
use Rattle.lines.specs.Statement.{has_stopped, statement_of}
use Rattle.lines.specs.Feeding.{SoFar, nothing_read, after, printed, ending}
use Rattle.lines.proofs.Streams.{streams, cut_state}
use Rattle.statement.specs.Status.{status_of, Ends}
use Rattle.statement.specs.declared.Verdict.{Verdict}
use Rattle.statement.specs.Ending.{number_of}
use Rattle.statement.specs.Giving.{Tells, Gives}
use Rattle.statement.proofs.Lines.{status_cut, status_none}
use Rattle.statement.proofs.Texts.{printed_ends}
use Rattle.statement.proofs.Giving.{told_cut}

-- The session stands for bytes that came one after the other from the start, and the status for what they print. Which they are no contract of a
-- read says.
pub record Reached (current : SoFar) (status : ℕ) : Type 0 where
  pub bytes : List ℕ
  pub stands : current ≡ after nothing_read bytes
  pub tells : status ≡ status_of (printed nothing_read bytes)

pub reached_none : (x : SoFar) → x ≡ nothing_read → Reached x 0
unfolding after printed
reached_none x e = record { bytes = []; stands = e; tells = sym (status_none 0) }

-- More bytes are given,
pub reached_more : {before later : SoFar} {input : List ℕ} (verdict verdict_later : Verdict) → Reached before (number_of verdict)
    → Gives before verdict input later verdict_later → Reached later (number_of verdict_later)
reached_more {input = input} verdict verdict_later r g =
    let same = ap (λ (x : SoFar). printed x input) r.stands in
    record {
      bytes = r.bytes ++ input;
      stands = g.stands ∙ rw (cut_state nothing_read r.bytes input) (ap (λ (x : SoFar). after x input) r.stands);
      tells = g.tells ∙ rw (same, r.tells) (told_cut 0 nothing_read r.bytes input);
    }

-- after a fault nothing is printed any more,
pub reached_stop : {x : SoFar} {status : ℕ} → Reached x status → has_stopped x.state ≡ true → Ends status
unfolding printed after
reached_stop {x} r stopped =
    let told = printed nothing_read r.bytes in
    let none : ending (after nothing_read r.bytes) ≡ [] = sym (ap ending r.stands) ∙ streams.quiet x [] stopped in
    let text : told ≡ statement_of r.bytes
    = sym (append-nil told) ∙ ap (λ (t : List ℕ). told ++ t) (sym none) ∙ streams.whole r.bytes in
    Ends.told r.bytes (r.tells ∙ ap status_of text)

-- and at the end of the input its ending is.
pub reached_end : {x : SoFar} (verdict later : Verdict) → Reached x (number_of verdict) → Tells verdict (ending x) later → Ends (number_of later)
reached_end verdict later r t =
    let bytes = r.bytes in
    Ends.told bytes
    (t ∙ rw (r.tells, r.stands)
    (sym (status_cut 0 (printed nothing_read bytes) (ending (after nothing_read bytes)) (printed_ends nothing_read bytes))
    ∙ ap status_of (streams.whole bytes)))
