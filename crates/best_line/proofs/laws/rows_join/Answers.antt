use Rattle.best_line.proofs.RowLists.{rows_join}
use Rattle.best_line.proofs.laws.rows_join.Goals as goal

pub returns : goal.returns
returns c = rows_join
