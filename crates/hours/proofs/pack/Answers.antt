-- `hours::pack` packs what isn't refused.
use mathlib.Core.Path.{sym, ◌∙◌}
use Rattle.hours.specs.Schedules.{words_or_none}
use Rattle.hours.proofs.Packed.{accepted_schedule}
use Rattle.hours.proofs.pack.Goals as goal

pub returns-then-schedule_refused-clause-words : goal.returns-then-schedule_refused-clause-words
unfolding words_or_none
returns-then-schedule_refused-clause-words c = rw (sym c.schedule_refused.ensures ∙ c.if-schedule_refused.true)

pub words_of-requires : goal.words_of-requires
words_of-requires c = let (long, good) = accepted_schedule _ (sym c.schedule_refused.ensures ∙ c.if-schedule_refused.false) in record {
  length = long;
  entries = good;
}

pub returns-clause-words : goal.returns-clause-words
unfolding words_or_none
returns-clause-words c =
    rw (sym c.schedule_refused.ensures ∙ c.if-schedule_refused.false) c.words_of.ensures
