use Rattle.legal_moves.proofs.answers.GraphLemmas.{ended_by_bytes, ended_by_moves, plays_reach, reached_by_plays}
use Rattle.legal_moves.proofs.laws.graph_is_the_game.Goals as goal

pub returns-clause-ends : goal.returns-clause-ends
returns-clause-ends c = λ kind points game x at sound here. (ended_by_bytes kind points game sound x at here, ended_by_moves kind points game sound x at here)

pub returns-clause-plays : goal.returns-clause-plays
returns-clause-plays c = λ kind points game at sound.
    (plays_reach kind points game sound at, λ (x, here, reached). reached_by_plays kind points game sound x reached at here)
