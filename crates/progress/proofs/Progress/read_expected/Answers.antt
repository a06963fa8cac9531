-- `progress::Progress::read_expected` asks what is expected.
use mathlib.Core.Path.{◌≡◌, refl, ◌∙◌, ap}
use Prim.Native.Nat.{ℕ}
use native.Mathlib.Omega.{arith}
use Rattle.grammar.specs.Grammar.{opening_line}
use Rattle.lines.specs.Statement.{opening_read}
use Rattle.lines.proofs.Laws.{expected_opening, expected_bill, expected_critical, expected_later, expected_none}
use Rattle.progress.specs.Expected.{line_place, number_of}
use Rattle.progress.proofs.Expecting.{line_below}
use Rattle.progress.specs.Progressing.{state_of}
use Rattle.progress.proofs.Lines.{steps, steps_by}
use Rattle.progress.proofs.Progress.read_expected.Goals as goal

pub returns-in-Opening : goal.returns-in-Opening
returns-in-Opening c =
    let s = state_of c.args.self.now in
    let l = c.args.line.now in
    let h = line_below c.in-Opening.opening in
    let k : s.expected ≡ line_place c.in-Opening.opening = ap number_of c.in-Opening.is in
    steps_by _ _ _ _ _ (expected_opening l s (omega arith) ∙ ap (λ (n : ℕ). opening_read (opening_line n l) s) k) c.read_opening.ensures

pub returns-in-Bill : goal.returns-in-Bill
returns-in-Bill c =
    let s = state_of c.args.self.now in
    let k : s.expected ≡ 14 = ap number_of c.in-Bill.is in
    steps_by _ _ _ _ _ (expected_bill c.args.line.now s (omega arith) k) c.read_bill.ensures

pub returns-in-Critical : goal.returns-in-Critical
returns-in-Critical c =
    let s = state_of c.args.self.now in
    let k : s.expected ≡ 15 = ap number_of c.in-Critical.is in
    steps_by _ _ _ _ _ (expected_critical c.args.line.now s (omega arith) (λ q. omega arith) k) c.read_critical.ensures

pub returns-in-Run : goal.returns-in-Run
returns-in-Run c =
    let s = state_of c.args.self.now in
    let k : s.expected ≡ 16 = ap number_of c.in-Run.is in
    steps_by _ _ _ _ _ (expected_later c.args.line.now s (omega arith) (λ q. omega arith) (λ q. omega arith) k) c.read_run_or_bill.ensures

pub returns-in-Stopped : goal.returns-in-Stopped
returns-in-Stopped c =
    let s = state_of c.args.self.now in
    let k : s.expected ≡ 17 = ap number_of c.in-Stopped.is in
    steps _ _ _ _ (expected_none c.args.line.now s (omega arith) (λ q. omega arith) (λ q. omega arith) (λ q. omega arith)) refl
