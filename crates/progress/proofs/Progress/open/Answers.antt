-- `progress::Progress::open` opens the account and tells its number.
use mathlib.Core.Path.{refl, sym}
use Rattle.progress.specs.Progressing.{state_of}
use Rattle.progress.proofs.Lines.{account_opens}
use Rattle.progress.proofs.Progress.open.Goals as goal

pub returns : goal.returns
returns c =
    record {
      outcome = sym (account_opens (state_of c.args.self.now) _ c.open-reply.ensures);
      registers = refl;
    }
