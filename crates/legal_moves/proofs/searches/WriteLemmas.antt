-- What an action that writes leads to has the size of a board.
use Rattle.std.proofs.Common.{◌≡◌, ℕ, ◌<◌, length, refl, sym, ap, ◌∙◌, subst}
use Rattle.rbg_game.specs.Rules.{Regex, Action, switch}
use Rattle.rbg_game.specs.Games.{Game}
use Rattle.rbg_game.specs.Sound.{IsSoundGame, IsSoundRegex}
use Rattle.rbg_game.specs.Positions.{IsStateOf}
use Rattle.rbg_game.specs.declared.position.SemiState.{SemiState}
use Rattle.rbg_game.specs.declared.roles.Role.{Role}
use Rattle.legal_moves.specs.Effects.{Effect, EffectAt}
use Rattle.legal_moves.specs.lemmas.Boards.{at_turn, board_at, boards_in, AreWhole, IsAsLarge}
use Rattle.legal_moves.specs.declared.search.boards.Boards.{Boards}
use Rattle.legal_moves.proofs.searches.BoardLemmas.{as_large}
use Rattle.legal_moves.proofs.automata.StepLemmas.{EffectAt-keeps}

-- a switch changes the turn alone
pub effect_of_switch : (game : Game) (a : Action) (role : Role) (S : SemiState) → a ≡ switch role → Effect game a S (record S { mover = role })
effect_of_switch game a role S is = subst (λ b. Effect game b S (record S { mover = role })) (sym is) refl

-- what an occurrence leads to from a semi-state on a board has as many pieces and values as the boards
pub fits_on : (game : Game) (e : Regex) (k : ℕ) (b : Boards) (i : ℕ) (S U : SemiState) (m : Role) (v : ℕ) → AreWhole b → i < b.count
    → S ≡ at_turn (board_at (boards_in b) i) m v → IsSoundGame game → IsSoundRegex game e → IsStateOf game S → EffectAt game e 1 k S U → IsAsLarge b U
fits_on game e k b i S U m v whole inside is sound good state step =
    let after = EffectAt-keeps game e k S U sound good state step in
    let large = as_large b whole i inside in
    record {
      pieces_are = after.pieces_fit ∙ sym state.pieces_fit ∙ ap (λ A. length A.pieces.items) is ∙ large.pieces_are;
      values_are = after.values_fit ∙ sym state.values_fit ∙ ap (λ A. length A.values.items) is ∙ large.values_are;
    }
