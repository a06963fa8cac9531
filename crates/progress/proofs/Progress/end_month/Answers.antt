-- `progress::Progress::end_month` bills the month and tells its line.
use mathlib.Core.Path.{refl, sym}
use Rattle.progress.specs.Progressing.{state_of}
use Rattle.progress.proofs.Lines.{month_ends}
use Rattle.progress.proofs.Progress.end_month.Goals as goal

pub returns : goal.returns
returns c =
    record {
      outcome = sym (month_ends (state_of c.args.self.now) _ c.month_reply-reply.ensures);
      registers = refl;
    }
