-- Moves lead from positions of a game to positions of the game.
use Rattle.std.proofs.Common.{◌≡◌, ℕ, ◌≤◌, ◌<◌, ◌+◌, refl, true, List, [], ◌∷◌, Option, Some, None, sym, subst, arith}
use Rattle.rbg_game.specs.Rules.{Regex, Action, count, action_at, is_switch}
use Rattle.rbg_game.specs.Games.{Game}
use Rattle.rbg_game.specs.Sound.{IsSoundGame, IsSoundRegex}
use Rattle.rbg_game.specs.Positions.{IsStateOf, IsPositionOf}
use Rattle.rbg_game.specs.declared.position.SemiState.{SemiState}
use Rattle.rbg_game.specs.declared.position.Position.{Position}
use Rattle.legal_moves.specs.Effects.{Leads}
use Rattle.legal_moves.specs.Moves.{IsSuccessor}
use Rattle.legal_moves.proofs.EffectLemmas.{action_at-in_range}
use Rattle.legal_moves.proofs.automata.StepLemmas.{EffectAt-keeps}

state_of : (game : Game) (e : Regex) (w : List ℕ) (S T : SemiState) → IsSoundGame game → IsSoundRegex game e → IsStateOf game S
    → Leads game e w S T → IsStateOf game T
state_of game e [] S T sound good state leads = subst (IsStateOf game) (sym leads) state
state_of game e (k ∷ w) S T sound good state leads =
    state_of game e w leads.0 T sound good (EffectAt-keeps game e k S leads.0 sound good state leads.1) leads.2

-- a switch has the number of an occurrence
place_of : (e : Regex) (k : ℕ) → is_switch (action_at e 1 k) ≡ true → k ≤ count e
place_of e k switch = go (action_at e 1 k) (λ a is. action_at-in_range e 1 k a is) switch
  where
    go : (o : Option Action) → ((a : Action) → o ≡ Some a → (1 ≤ k) × (k < 1 + count e)) → is_switch o ≡ true → k ≤ count e
    go None range h = absurd (cc)
    go (Some a) range h = let r = range a refl in omega (arith, r.1)

pub position_of : (game : Game) (at next : Position) → IsSoundGame game → IsPositionOf game at → IsSuccessor game at next → IsPositionOf game next
position_of game at next sound here successor = record {
  state_is = state_of game game.rules successor.0 at.state next.state sound sound.rules_are here.state_is successor.1.leads;
  place_is = place_of game.rules next.place successor.1.ends.3;
}
