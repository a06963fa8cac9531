-- `statement::print` gives the session what was read, one piece after the other, and the verdict is that on what they print.
use Rattle.std.proofs.Common.{sym, ◌∙◌}
use Rattle.statement.proofs.Reaching.{reached_none, reached_more, reached_stop, reached_end}
use Rattle.statement.proofs.print.Goals as goal

pub loop-init : goal.loop-init
loop-init c = rw c.requires (reached_none _ c.start.ensures)

pub returns-then-is_stopped : goal.returns-then-is_stopped
returns-then-is_stopped c =
    reached_stop (reached_more _ _ c.loop.invariant c.in_ok-give.ensures) (sym c.is_stopped.ensures ∙ c.if-is_stopped.true)

pub loop-preserved : goal.loop-preserved
loop-preserved c = reached_more _ _ c.loop.invariant c.in_ok-give.ensures

pub returns : goal.returns
returns c = reached_end _ _ c.loop.invariant c.in_ok-finish.ensures
