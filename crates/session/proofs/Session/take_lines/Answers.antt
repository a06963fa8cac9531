-- `session::Session::take_lines` takes run lines only where no byte is held, or the rest of a line: `Running` has each case.
use Rattle.std.proofs.Common.{rules}
use Rattle.session.proofs.Running.{takes_line, takes_runs, takes_none}
use Rattle.session.proofs.Session.take_lines.Goals.{then-is_empty+else-taken-ne0, else-is_empty}
use Rattle.session.proofs.Session.take_lines.Goals as goal

pub returns-then-taken-ne0 : goal.returns-then-taken-ne0
returns-then-taken-ne0 c = takes_runs c.args.self.now c.read_runs-taken.new.self c.args.input.now c.args.out.now 0 c.read_runs-taken.result
    c.read_runs-taken.ensures (search rules) c.if-taken-ne0.true

pub returns : goal.returns
returns c = elim c.if-is_empty.branch [
  | then-is_empty+else-taken-ne0 w ↦ takes_none c.args.self.now w.read_runs-taken.new.self c.args.input.now c.args.out.now 0 w.read_runs-taken.result
      w.read_runs-taken.ensures w.if-taken-ne0.false (rw w.self-is at c.take_line.ensures)
  | else-is_empty w ↦ takes_line (rw w.self-is at c.take_line.ensures)
]
