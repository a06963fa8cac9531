-- `progress::Progress::ending` asks what is expected.
use mathlib.Core.Path.{◌≡◌, refl, sym, ap}
use native.Mathlib.Omega.{arith}
use Rattle.lines.proofs.Laws.{end_opened, end_stopped, end_month}
use Rattle.progress.specs.Expected.{number_of}
use Rattle.progress.specs.Progressing.{state_of}
use Rattle.progress.proofs.Lines.{end_line}
use Rattle.progress.proofs.Progress.ending.Goals as goal

pub returns-in-Bill : goal.returns-in-Bill
returns-in-Bill c = sym (end_opened (state_of c.args.self.now) (ap number_of c.in-Bill.is))

pub returns-in-Stopped : goal.returns-in-Stopped
returns-in-Stopped c =
    let s = state_of c.args.self.now in
    let k : s.expected ≡ 17 = ap number_of c.in-Stopped.is in
    sym (end_stopped s (λ q. omega arith) (omega arith))

pub returns-in-Run : goal.returns-in-Run
returns-in-Run c =
    let s = state_of c.args.self.now in
    let k : s.expected ≡ 16 = ap number_of c.in-Run.is in
    sym (end_month s _ c.month_reply.ensures (λ q. omega arith) (omega arith) k)

pub returns-in-Opening : goal.returns-in-Opening
returns-in-Opening c = end_line (state_of c.args.self.now) _ _ refl c.next_line.ensures c.in-Opening.is
