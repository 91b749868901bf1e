use Rattle.legal_moves.proofs.answers.FieldLemmas.{role_is, leader_is}
use Rattle.legal_moves.proofs.answers.SourceLemmas.{one_position}
use Rattle.legal_moves.proofs.laws.bytes_say.Goals as goal

pub returns-clause-mover_and_leader : goal.returns-clause-mover_and_leader
returns-clause-mover_and_leader c = λ kind points game x at sound here. (role_is kind game sound x at here, leader_is kind points game sound x at here)

pub returns-clause-one_position : goal.returns-clause-one_position
returns-clause-one_position c = λ kind game x at other sound. one_position kind game sound x at other
