-- `session::Session::take_line` keeps the bytes before a newline and reads the line that it ends: `Turns` has both cases.
use Rattle.session.proofs.Turns.{all_held, line_ended}
use Rattle.session.proofs.Session.take_line.Goals as goal

pub returns-in_default : goal.returns-in_default
returns-in_default c = all_held c.args.self.now c.keep.new.self c.args.input.now c.args.out.now 0 c.in_default.ensures c.keep.ensures

pub returns : goal.returns
returns c = line_ended c.args.self.now c.keep-2.new.self c.args.input.now c.args.out.now c.in-Some.line.now 0 c.in-Some.ensures.before c.keep-2.ensures
    c.read_line-written.new.self _ c.read_line-written.new.out c.read_line-written.result c.in-Some.ensures.within c.requires
    (rw c.as_slice.ensures at c.read_line-written.ensures) c.clear.ensures
