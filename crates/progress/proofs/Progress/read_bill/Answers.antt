-- `progress::Progress::read_bill` is at fault at an unreadable line.
use mathlib.Core.Path.{◌∙◌, ap, sym}
use mathlib.Core.List.{List, []}
use Prim.Native.Nat.{ℕ}
use Rattle.lines.specs.Statement.{outcome, bill_read}
use Rattle.progress.specs.Progressing.{state_of}
use Rattle.progress.proofs.Lines.{faulty, steps}
use Rattle.lines.proofs.Laws.{bill_no, bill_yes}
use Rattle.progress.proofs.Progress.read_bill.Goals as goal

pub returns-in_err-month : goal.returns-in_err-month
returns-in_err-month c =
    let s = state_of c.args.self.now in
    rw c.from_residual.ensures (faulty c.args.self.now _ (ap (λ (v : List ℕ). bill_read v s) (sym c.in_err-month.ensures) ∙ bill_no s))

pub returns : goal.returns
returns c =
    let s = state_of c.args.self.now in
    steps c.args.self.now _ _ _
    (ap (λ (v : List ℕ). bill_read v s) (sym c.in_ok-month.ensures) ∙ bill_yes s _ ∙ ap (outcome []) (sym c.begin_month.ensures.state))
    c.begin_month.ensures.registers
