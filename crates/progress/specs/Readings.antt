-- The readings of a month at the front of two registers.
use Rattle.std.specs.Prelude.{◌≡◌, ◌≤◌, ◌<◌, List, ◌++◌, ℕ, ◌+◌, length, replicate, take}
use Rattle.std.proofs.lemmas.List.Edits.{sets}
use Rattle.lines.specs.Statement.{run_limit}
use Rattle.lines.specs.Feeding.{Registers, registers_of}
use Rattle.progress.specs.declared.readings.Readings.{Readings}
use Rattle.progress.specs.declared.readings.Run.{Run}

abbrev pub delivered_of : Readings → List ℕ
delivered_of x = take x.count x.delivered

abbrev pub received_of : Readings → List ℕ
received_of x = take x.count x.received

-- The two registers, with what lies past the readings.
abbrev pub registers_in : Readings → Registers
registers_in x = registers_of x.delivered x.received

-- A run fits behind the readings and was stored there. Past them the registers are unaltered.
pub record Adds (before : Readings) (run : Run) (later : Readings) : Type 0 where
  pub fits : length (delivered_of before) + run.count ≤ run_limit
  pub delivered : delivered_of later ≡ delivered_of before ++ replicate run.count run.delivered
  pub received : received_of later ≡ received_of before ++ replicate run.count run.received
  pub registers : registers_in later ≡ registers_of (sets before.delivered 0 (delivered_of later)) (sets before.received 0 (received_of later))

-- It doesn't fit, and was not stored.
pub record Refuses (before : Readings) (run : Run) (later : Readings) : Type 0 where
  pub full : run_limit < length (delivered_of before) + run.count
  pub same : later ≡ before
