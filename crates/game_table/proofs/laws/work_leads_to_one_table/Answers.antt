use Rattle.legal_moves.specs.Sources.{IsWideAt, graph_of}
use Rattle.game_table.specs.lemmas.Laws.{work_leads_to_one_table}
use Rattle.game_table.proofs.laws.work_leads_to_one_table.Goals as goal

pub returns : goal.returns
returns c = λ kind goal game. work_leads_to_one_table (graph_of kind goal game) (IsWideAt kind game)
