use Rattle.best_line.proofs.FinishLemmas.{complete_finished, finished_complete}
use Rattle.solver.proofs.laws.counts_tell_what_is_finished.Goals as goal

pub returns : goal.returns
returns c = λ kept sound. (complete_finished kept.table sound.2.table, finished_complete kept.table sound.2.table)
