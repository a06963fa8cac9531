-- `progress::Progress::read_critical` is at fault at an unreadable line.
use mathlib.Core.Path.{refl, sym, ◌∙◌, ap}
use mathlib.Core.List.{List}
use Prim.Native.Nat.{ℕ}
use Rattle.lines.specs.Statement.{critical_read}
use Rattle.progress.specs.Progressing.{state_of}
use Rattle.progress.proofs.Lines.{faulty, steps}
use Rattle.lines.proofs.Laws.{critical_no, critical_yes}
use Rattle.progress.proofs.Progress.read_critical.Goals as goal

pub returns-in_err-self : goal.returns-in_err-self
returns-in_err-self c =
    let s = state_of c.args.self.now in
    rw c.from_residual.ensures (faulty c.args.self.now _ (ap (λ (v : List ℕ). critical_read v s) (sym c.in_err-self.ensures) ∙ critical_no s))

pub returns : goal.returns
returns c =
    let s = state_of c.args.self.now in
    steps c.args.self.now _ _ _ (ap (λ (v : List ℕ). critical_read v s) (sym c.in_ok-self.ensures) ∙ critical_yes s _) refl
