use Rattle.edits_game.proofs.moves.first_word.Goals as goal
use Rattle.edits_game.proofs.WordLemmas.{of_part}

-- the word that is shown is that of the first move
pub returns : goal.returns
returns c = of_part _ _ _ 0 _ c.in_ok-moves.ensures.shortest c.in_ok-word.ensures
