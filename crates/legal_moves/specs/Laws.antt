-- Laws of the search, each the contract of a function.
use Rattle.std.specs.Prelude.{◌≡◌, ℕ, ◌↔◌, Bool, true, List, ◌∷◌, length, Option, Some}
use Rattle.rbg_game.specs.Rules.{Regex, Action, pattern, action_at, is_switch}
use Rattle.rbg_game.specs.Games.{Game}
use Rattle.rbg_game.specs.Expressions.{Expression, HasSmallParts, NamesBelow, value_of}
use Rattle.rbg_game.specs.Sound.{IsSoundAction, IsSoundExpression, IsSoundGame}
use Rattle.rbg_game.specs.declared.roles.Player.{Player}
use Rattle.rbg_game.specs.declared.position.SemiState.{SemiState}
use Rattle.rbg_game.specs.declared.position.Position.{Position}
use Rattle.position_pack.specs.declared.kind.PackingKind.{PackingKind}
use Rattle.legal_moves.specs.Words.{CanFollow}
use Rattle.legal_moves.specs.Effects.{Effect, EffectAt}
use Rattle.retrograde.specs.Graph.{IsEnded, IsReachable}
use Rattle.legal_moves.specs.Moves.{IsMove, IsSuccessor, IsAhead, HasNoMove, Reach}
use Rattle.legal_moves.specs.Sources.{IsAt, role_in, leader_in, graph_of}
use Rattle.legal_moves.specs.Machine.{wrapping_value_of}
use Rattle.legal_moves.specs.Plain.{IsPlain}
use Rattle.rbg_game.specs.Positions.{IsStateOf, IsPositionOf}
use Rattle.legal_moves.specs.Glushkov.{IsWalk}
use Rattle.legal_moves.specs.Searches.{Searched}

-- what can follow a place in a word is what can be walked from it, an occurrence at a time
abbrev pub FollowsByWalks : Type 0
FollowsByWalks =
    (e : Regex) (place l : ℕ) (w : List ℕ) → CanFollow e place (l ∷ w) ↔ IsWalk e place (l ∷ w)

-- moves are the paths of the search that end at a switch
abbrev pub MovesAreSearched : Type 0
MovesAreSearched =
    (game : Game) (at : Position) (w : List ℕ) (next : Position) → IsMove game at w next
    ↔ (Searched game game.rules at.place at.state w next.state next.place × (is_switch (action_at game.rules 1 next.place) ≡ true))

-- a sound action that is no pattern can be done at each state of the game
abbrev pub SoundActionsArePlain : Type 0
SoundActionsArePlain =
    (game : Game) (S : SemiState) → IsStateOf game S → (a : Action) → ((positive : Bool) (e : Regex) → a ≡ pattern positive e → ⊥)
    → IsSoundAction game a → IsPlain S.values.items a

-- an action leads from a semi-state to one or to none, by itself and where it stands in an expression
abbrev pub ActionsLeadToOne : Type 0
ActionsLeadToOne =
    (game : Game) (S T U : SemiState) → ((a : Action) → Effect game a S T → Effect game a S U → T ≡ U)
    × ((e : Regex) (n k : ℕ) → EffectAt game e n k S T → EffectAt game e n k S U → T ≡ U)

-- what a position of the game leads to is a position of the game
abbrev pub SuccessorsArePositions : Type 0
SuccessorsArePositions =
    (game : Game) (at next : Position) → IsSoundGame game → IsPositionOf game at → IsSuccessor game at next → IsPositionOf game next

-- the bytes of a position of a game say who has the turn, and who is ahead
abbrev pub BytesSayMoverAndLeader : Type 0
BytesSayMoverAndLeader =
    (kind : PackingKind) (goal : Option ℕ) (game : Game) (x : List ℕ) (at : Position) → IsSoundGame game → IsAt kind game x at
    → (role_in kind game x ≡ at.state.mover) × ((w : Player) → (leader_in kind goal game x ≡ Some w) ↔ IsAhead goal w at)

-- bytes are those of one position of a game at most
abbrev pub BytesAreOfOnePosition : Type 0
BytesAreOfOnePosition =
    (kind : PackingKind) (game : Game) (x : List ℕ) (at other : Position) → IsSoundGame game → IsAt kind game x at
    → IsAt kind game x other → other ≡ at

-- what is small for the bounds of a game is small for the values of each of its states, and names values that are there
abbrev pub SoundExpressionsAreSmall : Type 0
SoundExpressionsAreSmall =
    (game : Game) (S : SemiState) (e : Expression) → IsStateOf game S → IsSoundExpression game e → NamesBelow (length S.values.items) e
    × HasSmallParts S.values.items e

-- and has in 64-bit numbers the value that it has in whole numbers without bound
abbrev pub ValuesFitTheMachine : Type 0
ValuesFitTheMachine =
    (game : Game) (S : SemiState) (e : Expression) → IsStateOf game S → IsSoundExpression game e
    → wrapping_value_of S.values.items e ≡ value_of S.values.items e

-- no move leads from a position exactly where none leads from its bytes in the graph of the game
abbrev pub EndsAgree : Type 0
EndsAgree =
    (kind : PackingKind) (goal : Option ℕ) (game : Game) (x : List ℕ) (at : Position) → IsSoundGame game → IsAt kind game x at
    → HasNoMove game at ↔ IsEnded (graph_of kind goal game) x

-- plays come to a position exactly where it is one of the game and its bytes can be reached in the graph
abbrev pub PlaysAgree : Type 0
PlaysAgree =
    (kind : PackingKind) (goal : Option ℕ) (game : Game) (at : Position) → IsSoundGame game
    → Reach game at ↔ ((x : List ℕ) × IsAt kind game x at × IsReachable (graph_of kind goal game) x)
