-- `progress::Progress::read_runs` takes one run line after the other: `RunLines` has the turns.
use mathlib.Core.Path.{ap}
use Rattle.progress.specs.Expected.{number_of}
use Rattle.progress.proofs.Expecting.{not_run}
use Rattle.progress.proofs.RunLines.{added, refused, running_from, ran_none, ran_full, ran_other, turn, still_run}
use Rattle.progress.proofs.Progress.read_runs.Goals as goal
use Rattle.progress.proofs.Progress.read_runs.Goals.{in-Some+then-is_none, in_default-first_run}

pub returns-in_default : goal.returns-in_default
returns-in_default c = ran_other c.args.self.now c.args.input.now (not_run c.args.self.now.expected c.in_default.not-Run)

pub loop-run-init : goal.loop-run-init
loop-run-init c = (ap number_of c.in-Run.is, running_from c.args.self.now c.args.input.now)

pub loop-run-preserved : goal.loop-run-preserved
loop-run-preserved c =
    let lp = c.loop-run in (
      still_run lp.self c.count.new.self _ lp.invariant.0 c.count.ensures,
      turn c.args.self.now lp.self _ _ lp.invariant.1 lp.invariant.0 _ _ c.in-Some.ensures _ c.count.new.self (added c.add.result _ c.if-is_none.ensures c.add.ensures.added) c.count.ensures,
    )

pub returns : goal.returns
returns c = let lp = c.loop-run in
    elim c.match-first_run.branch [
      | in-Some+then-is_none w ↦ rw w.self-is
          (ran_full c.args.self.now lp.self _ _ lp.invariant.1 lp.invariant.0 _ _ w.in-Some.ensures _ (refused w.add.result _ w.if-is_none.ensures w.add.ensures.refused))
      | in_default-first_run w ↦ rw w.self-is (ran_none c.args.self.now lp.self _ _ lp.invariant.1 lp.invariant.0 w.in_default-first_run.ensures)
    ]
