-- `progress::Progress::read_line` counts the line and reads it, where there is room.
use mathlib.Core.Path.{sym, ◌∙◌}
use Rattle.progress.proofs.Lines.{reads_none, reads_some}
use Rattle.progress.proofs.Progress.read_line.Goals as goal

pub returns-then-not-has_room : goal.returns-then-not-has_room
returns-then-not-has_room c = reads_none _ _ c.args.line.now c.args.self.now (sym c.has_room.ensures ∙ c.if-not-has_room.true)

pub returns : goal.returns
returns c = reads_some _ _ _ _ c.count.new.self _ _ _ _ (sym c.has_room.ensures ∙ c.if-not-has_room.false) c.count.ensures c.read_or_stop.ensures c.put.ensures
