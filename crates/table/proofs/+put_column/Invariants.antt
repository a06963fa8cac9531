use lib.ListN.{length}
use Rattle.table.proofs.+put_column.Given as goal

abbrev pub decreases-put_column : goal.decreases-put_column
decreases-put_column l = length l.out.now
