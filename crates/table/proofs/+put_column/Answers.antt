-- `table::put_column`: the bytes before the last are written by its call of itself. The measure is the width, which falls by one.
use Rattle.table.proofs.Writing.{column_none, column_more}
use Rattle.table.proofs.+put_column.Goals as goal

pub returns-in-Some : goal.returns-in-Some
returns-in-Some t c = column_more _ _ _ _ c.in-Some.ensures.cases.1 c.column_rest.ensures c.column_byte.ensures c.put_column.ensures

pub returns-in_default : goal.returns-in_default
returns-in_default t c = column_none _ _ _ c.in_default.ensures.cases
