use Rattle.grammar.specs.Grammar.{opening_line}
use Rattle.grammar.proofs.opening_line.Goals as goal

-- With `keyed` opened too, as other lines need it, no search closes this one.
pub returns-in-2-clause-value : goal.returns-in-2-clause-value
unfolding opening_line
returns-in-2-clause-value c = rw (c.in-2.is) c.word-in-2.ensures.value
