-- The shape of a game, from the game of the program.
use Rattle.std.proofs.Common.{◌≡◌, ◌<◌, ◌≤◌, ℕ, zero, suc, length, get_or, List, [], ◌∷◌, map, refl, ap, sym, ◌∙◌, arith}
use Rattle.rbg_game.specs.Meaning.{variable_of}
use Rattle.rbg_game.specs.declared.game.Variable.{Variable}
use Rattle.std.specs.Prelude.{All, slice_get, option_map, unwrap_or}
use Rattle.std.proofs.lemmas.List.{get_or-map, length-map}
use Rattle.rbg_game.specs.Games.{Game, Vertex, Variable as Bounded}
use Rattle.rbg_game.specs.Positions.{IsPositionOf}
use Rattle.rbg_game.specs.declared.position.Position.{Position}
use Rattle.rbg_game.specs.Sound.{IsSoundGame}
use Rattle.rbg_game.proofs.CountLemmas.{count_within}
use Rattle.position_pack.specs.Shape.{Shape, IsSmall, shape_of, Fits}

pub bounds_are : (all : List Variable) → map (λ v. v.bound) all ≡ map (λ v. v.bound) (map variable_of all)
bounds_are [] = refl
bounds_are (v ∷ all) = ap (λ bs. v.bound ∷ bs) (bounds_are all)

abbrev pub shape : ℕ → List ℕ → ℕ → ℕ → Shape
shape pieces bounds vertices actions = record { pieces = pieces; bounds = bounds; vertices = vertices; actions = actions }

pub same_shape : {a p v w m n : ℕ} {b c : List ℕ} → a ≡ p → b ≡ c → v ≡ w → m ≡ n → shape a b v m ≡ shape p c w n
same_shape e f g h = rw (e, f, g, h) refl

-- a game within its limits has a small shape
pub small_shape : (game : Game) → IsSoundGame game → IsSmall (shape_of game)
small_shape game sound = record {
  few_pieces = sound.few_pieces;
  few_vertices = sound.few_vertices;
  few_values = omega (arith, sound.few_variables, length-map game.variables (λ v. v.bound));
  few_actions = omega (arith, count_within game.rules, sound.few_actions);
  low_bounds = λ k lt. low game.variables sound.bounds_fit k lt;
}
  where
    low : (all : List Bounded) → All (λ v. v.bound ≤ 1000000) all → (k : ℕ) → k < length (map (λ v. v.bound) all)
        → get_or (map (λ v. v.bound) all) k 0 ≤ 1000000
    low all fit k lt =
        let none : Bounded = record { name = []; bound = 0 } in
        let here : k < length all = omega (arith, lt, length-map all (λ v. v.bound)) in
        omega (arith, fit k none here, get_or-map (λ v. v.bound) all k none 0 here)

-- the bound of a variable, in the list of bounds
pub bound_is : (all : List Bounded) (v : ℕ) → unwrap_or (option_map (λ b. b.bound) (slice_get all v)) 0 ≡ get_or (map (λ b. b.bound) all) v 0
bound_is [] v = refl
bound_is (b ∷ all) zero = refl
bound_is (b ∷ all) (suc v) = bound_is all v

-- a position of the game has its fields in the ranges
pub fits : (game : Game) (at : Position) → IsPositionOf game at → Fits (shape_of game) at
fits game at is = record {
  pieces_fit = is.state_is.pieces_fit;
  pieces_are = is.state_is.pieces_are;
  values_fit = is.state_is.values_fit ∙ sym (length-map game.variables (λ v. v.bound));
  values_are = λ k lt. omega (arith, is.state_is.values_are k lt, bound_is game.variables k);
  vertex_is = is.state_is.vertex_is;
  place_is = is.place_is;
}

-- and with its fields in the ranges a position is one of the game
pub is_position : (game : Game) (at : Position) → Fits (shape_of game) at → IsPositionOf game at
is_position game at fit = record {
  state_is = record {
    pieces_fit = fit.pieces_fit;
    pieces_are = fit.pieces_are;
    values_fit = fit.values_fit ∙ length-map game.variables (λ v. v.bound);
    values_are = λ k lt. omega (arith, fit.values_are k lt, bound_is game.variables k);
    vertex_is = fit.vertex_is;
  };
  place_is = fit.place_is;
}

-- a game has pieces, since a vertex has one
pub some_pieces : (game : Game) → IsSoundGame game → 0 < length game.pieces
some_pieces game sound =
    let none : Vertex = record { name = []; piece = 0; arrows = [] } in
    let here = sound.vertices_are 0 none sound.has_vertex in
    omega (arith, here.0)
