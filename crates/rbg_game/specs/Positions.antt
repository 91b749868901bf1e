-- The semi-states and the positions of a game.
use Rattle.std.specs.Prelude.{◌≡◌, ◌<◌, ◌≤◌, length, All, EachIndex, slice_index}
use Rattle.rbg_game.specs.Rules.{count}
use Rattle.rbg_game.specs.Games.{Game, bound_of}
use Rattle.rbg_game.specs.declared.position.SemiState.{SemiState}
use Rattle.rbg_game.specs.declared.position.Position.{Position}

-- each part is within what the game declares
pub record IsStateOf (game : Game) (S : SemiState) : Type 0 where
  pub pieces_fit : length S.pieces.items ≡ length game.vertices
  pub pieces_are : All (λ x. x < length game.pieces) S.pieces.items
  pub values_fit : length S.values.items ≡ length game.variables
  pub values_are : EachIndex S.values.items (λ v. slice_index S.values.items v ≤ bound_of game v)
  pub vertex_is : S.vertex < length game.vertices

pub record IsPositionOf (game : Game) (at : Position) : Type 0 where
  pub state_is : IsStateOf game at.state
  pub place_is : at.place ≤ count game.rules
