-- `statement::Telling::line` writes what was put: any table and any explanation fits into the buffer.
use Rattle.table.proofs.Laws.{table_short, explanation_short, put_within}
use Rattle.statement.proofs.Telling.line.Goals as goal

pub write_put-requires-clause-within : goal.write_put-requires-clause-within
write_put-requires-clause-within c = λ out line end later put. put_within put (table_short line.now)

pub write_put-requires-then-self-3-clause-within : goal.write_put-requires-then-self-3-clause-within
write_put-requires-then-self-3-clause-within c = λ out line end later put. put_within put (explanation_short line.now)
