-- What the private functions promise each other. No public contract cites this file. No contract can say which bytes a read brought, and so that
-- just those are handed on, nor what is written and whether that fails.
use Rattle.std.specs.Prelude.{◌≡◌, List, ℕ}
use Rattle.lines.specs.Feeding.{SoFar, after, printed}
use Rattle.statement.specs.declared.Verdict.{Verdict}
use Rattle.statement.specs.Ending.{number_of}
use Rattle.statement.specs.Status.{status_from}

-- The status is the one after a text.
abbrev pub Tells : Verdict → List ℕ → Verdict → Type 0
Tells verdict text later = number_of later ≡ status_from (number_of verdict) text

-- Bytes were given to the session, once each, and the status is the one after what they print.
pub record Gives (before : SoFar) (verdict : Verdict) (input : List ℕ) (later : SoFar) (verdict_later : Verdict) : Type 0 where
  pub stands : later ≡ after before input
  pub tells : Tells verdict (printed before input) verdict_later
