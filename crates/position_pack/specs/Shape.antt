-- The ranges of a position's fields.
use Rattle.std.specs.Prelude.{◌≡◌, ℕ, ◌+◌, ◌≤◌, ◌<◌, List, length, map, All, EachIndex, slice_index}
use Rattle.rbg_game.specs.Rules.{count}
use Rattle.rbg_game.specs.Games.{Game}
use Rattle.rbg_game.specs.declared.limits.TheConstants.{MAX_VERTICES, MAX_PIECES, MAX_VARIABLES, MAX_ACTIONS, MAX_NUMBER}
use Rattle.rbg_game.specs.declared.position.Position.{Position}

-- how many pieces and vertices there are, the bounds of the values, and the greatest place
pub record Shape : Type 0 where
  pub pieces : ℕ
  pub bounds : List ℕ
  pub vertices : ℕ
  pub actions : ℕ

-- the shape of a game's positions
abbrev pub shape_of : Game → Shape
shape_of game = record {
  pieces = length game.pieces;
  bounds = map (λ v. v.bound) game.variables;
  vertices = length game.vertices;
  actions = count game.rules;
}

-- no more pieces, vertices, values (those of the two players among them) and places than a game may have, and no value over the
-- greatest number
pub record IsSmall (shape : Shape) : Type 0 where
  pub few_pieces : shape.pieces ≤ MAX_PIECES
  pub few_vertices : shape.vertices ≤ MAX_VERTICES
  pub few_values : length shape.bounds ≤ 2 + MAX_VARIABLES
  pub few_actions : shape.actions ≤ MAX_ACTIONS
  pub low_bounds : EachIndex shape.bounds (λ v. slice_index shape.bounds v ≤ MAX_NUMBER)

-- a piece for each vertex, a value for each bound, and each field in its range
pub record Fits (shape : Shape) (at : Position) : Type 0 where
  pub pieces_fit : length at.state.pieces.items ≡ shape.vertices
  pub pieces_are : All (λ x. x < shape.pieces) at.state.pieces.items
  pub values_fit : length at.state.values.items ≡ length shape.bounds
  pub values_are : EachIndex at.state.values.items (λ v. slice_index at.state.values.items v ≤ slice_index shape.bounds v)
  pub vertex_is : at.state.vertex < shape.vertices
  pub place_is : at.place ≤ shape.actions
