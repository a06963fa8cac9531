-- `progress::Progress::read_run_or_bill` reads a run, or ends the month at the next bill line.
use mathlib.Core.Path.{sym, ◌∙◌}
use Rattle.progress.specs.Progressing.{state_of}
use Rattle.progress.proofs.Lines.{faulty, steps_by, month_begins}
use Rattle.progress.proofs.RunLines.{later_some, later_none, later_month}
use Rattle.progress.proofs.Progress.read_run_or_bill.Goals as goal

pub returns-in-Some : goal.returns-in-Some
returns-in-Some c =
    steps_by _ _ _ _ _ (later_some c.args.line.now (state_of c.args.self.now) _ (sym c.in-Some.is ∙ c.run_in.ensures)) c.read_run.ensures

pub returns-in_err-next : goal.returns-in_err-next
returns-in_err-next c =
    rw c.from_residual.ensures
    (faulty c.args.self.now _
    (later_none c.args.line.now (state_of c.args.self.now) (sym c.in_default.is ∙ c.run_in.ensures) c.in_err-next.ensures))

pub returns : goal.returns
returns c =
    month_begins c.args.self.now _ _ _ _ _
    (later_month c.args.line.now (state_of c.args.self.now) (sym c.in_default.is ∙ c.run_in.ensures) _ c.in_ok-next.ensures)
    c.end_month-text.ensures c.begin_month.ensures
