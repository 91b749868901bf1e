-- Moves, successors, reach, and the end of a play.
use Rattle.std.specs.Prelude.{◌≡◌, ℕ, ◌≤◌, ◌<◌, true, List, [], ◌∷◌, ◌++◌, length, map, if◌then◌else◌, slice_index, Option, None, Some}
use Rattle.rbg_game.specs.Rules.{Regex, action_at, is_switch, is_modifier}
use Rattle.rbg_game.specs.Games.{Game}
use Rattle.rbg_game.specs.declared.roles.Player.{Player}
use Rattle.rbg_game.specs.declared.roles.Player.TheVariants.{First, Second}
use Rattle.rbg_game.specs.declared.roles.Role.TheVariants.{Keeper}
use Rattle.rbg_game.specs.declared.position.SemiState.{SemiState}
use Rattle.rbg_game.specs.declared.position.Position.{Position}
use Rattle.legal_moves.specs.Words.{CanFollow, HasNoSwitch}
use Rattle.legal_moves.specs.Effects.{EffectAt, Leads}

-- w ends in its only switch, which has this number
abbrev pub EndsInOnlySwitch : Regex → List ℕ → ℕ → Type 0
EndsInOnlySwitch e w k =
    (t : List ℕ) × (w ≡ t ++ k ∷ []) × HasNoSwitch e t × (is_switch (action_at e 1 k) ≡ true)

-- w is a word of a move from one position to another
pub record IsMove (game : Game) (at : Position) (w : List ℕ) (next : Position) : Type 0 where
  pub follows : CanFollow game.rules at.place w
  pub ends : EndsInOnlySwitch game.rules w next.place
  pub leads : Leads game game.rules w at.state next.state

abbrev pub IsSuccessor : Game → Position → Position → Type 0
IsSuccessor game at next = (w : List ℕ) × IsMove game at w next

abbrev pub HasNoMove : Game → Position → Type 0
HasNoMove game at = (next : Position) → ¬ IsSuccessor game at next

-- the keeper to move, all values 0, the pieces of the board, the first vertex, place 0
abbrev pub start_of : Game → Position
start_of game = record {
  state = record {
    mover = Keeper;
    pieces = record { items = map (λ v. v.piece) game.vertices };
    values = record { items = map (λ v. 0) game.variables };
    vertex = 0;
  };
  place = 0;
}

-- the positions that plays come to
pub data Reach (game : Game) : Position → Type 0 where
  begun : Reach game (start_of game)
  moved : (at next : Position) → Reach game at → IsSuccessor game at next → Reach game next

abbrev pub score : Player → SemiState → ℕ
score First S = slice_index S.values.items 0
score Second S = slice_index S.values.items 1

abbrev pub opponent : Player → Player
opponent First = Second
opponent Second = First

-- w is ahead: without a goal with more points than the other, and with one with at least this many points while the other has fewer
abbrev pub IsAhead : Option ℕ → Player → Position → Type 0
IsAhead None w at = score (opponent w) at.state < score w at.state
IsAhead (Some points) w at = (points ≤ score w at.state) × (score (opponent w) at.state < points)

-- no word of a move between the two is shorter
abbrev pub IsShortest : Game → Position → List ℕ → Position → Type 0
IsShortest game at w next = (other : List ℕ) → IsMove game at other next → length w ≤ length other

-- what is shown of w from S: its modifiers, each with the vertex that is current when it acts
abbrev pub ShowsFrom : Game → List ℕ → SemiState → SemiState → List (ℕ × ℕ) → Type 0
ShowsFrom game [] S T shown = (T ≡ S) × (shown ≡ [])
ShowsFrom game (k ∷ w) S T shown =
    (U : SemiState) × (rest : List (ℕ × ℕ)) × EffectAt game game.rules 1 k S U × ShowsFrom game w U T rest
    × (shown ≡ (if is_modifier (action_at game.rules 1 k) then (k, S.vertex) ∷ rest else rest))
