-- Stages as numbers, which are the codes of the interface for C, and the stage of a number: of each but the first two codes the third.
use Rattle.std.specs.Prelude.{cond, ℕ, eqb}
use Rattle.account.specs.declared.Stage.{Stage}
use Rattle.account.specs.declared.Stage.TheVariants.{Fresh, Open, Closed}

abbrev pub stage_code : Stage → ℕ
stage_code Fresh = 0
stage_code Open = 1
stage_code Closed = 2

abbrev pub stage_at : ℕ → Stage
stage_at n = cond (eqb n 0) Fresh (cond (eqb n 1) Open Closed)
