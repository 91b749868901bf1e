use Rattle.std.proofs.Common.{◌≡◌, ◌⊎◌, inl, inr, sym, subst}
use Rattle.rbg_game.specs.declared.position.Position.{Position}
use Rattle.legal_moves.specs.Moves.{IsSuccessor}
use Rattle.witness.specs.Game.{witness_game, white_chooses, black_has_won, white_has_won}
use Rattle.witness.proofs.Moves.{start, keeper_hands_over, only_hands_over, white_may_lose, white_may_win, only_two}
use Rattle.witness.proofs.laws.white_has_a_choice.Goals as goal

pub returns-clause-keeper : goal.returns-clause-keeper
returns-clause-keeper c = λ next. (only_hands_over next, λ same. subst (IsSuccessor witness_game start) (sym same) keeper_hands_over)

either : (next : Position) → (next ≡ black_has_won) ⊎ (next ≡ white_has_won) → IsSuccessor witness_game white_chooses next
either next (inl same) = subst (IsSuccessor witness_game white_chooses) (sym same) white_may_lose
either next (inr same) = subst (IsSuccessor witness_game white_chooses) (sym same) white_may_win

pub returns-clause-white : goal.returns-clause-white
returns-clause-white c = λ next. (only_two next, either next)
