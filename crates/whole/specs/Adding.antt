-- What the private functions promise each other. No public contract cites this file.
use Rattle.std.specs.Prelude.{◌≡◌, List, ℕ, ◌+◌, ◌≤◌, ◌<◌, min, length, take}
use Rattle.std.proofs.lemmas.List.Edits.{sets}
use Rattle.lines.specs.Statement.{last_number}
use Rattle.lines.specs.Feeding.{SoFar, after, printed}

-- A part of the text was written from place i on, as much of it as fits, and the next one goes to place j.
pub record Adds (before : List ℕ) (i : ℕ) (part later : List ℕ) (j : ℕ) : Type 0 where
  pub bytes : later ≡ sets before i part
  pub end : j ≡ min (i + length part) last_number

-- Some bytes are taken, if there are any, and what they print is added.
pub record FeedsSome
    (before : SoFar) (input text : List ℕ) (i : ℕ) (taken : ℕ) (later : SoFar) (text_later : List ℕ) (j : ℕ) : Type 0 where
  pub some : 0 < length input → 0 < taken
  pub inside : taken ≤ length input
  pub stands : later ≡ after before (take taken input)
  pub adds : Adds text i (printed before (take taken input)) text_later j
