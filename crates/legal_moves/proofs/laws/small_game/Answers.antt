use Rattle.std.proofs.Common.{sym, subst, ◌∷◌, []}
use Rattle.legal_moves.specs.Moves.{IsSuccessor, start_of}
use Rattle.rbg_game.specs.Take.{take}
use Rattle.legal_moves.proofs.answers.TakeLemmas.{first_move, only_successor}
use Rattle.legal_moves.proofs.laws.small_game.Goals as goal

pub returns : goal.returns
returns c = λ next. (only_successor next, λ same. subst (IsSuccessor take (start_of take)) (sym same) (1 ∷ 2 ∷ [], first_move))
