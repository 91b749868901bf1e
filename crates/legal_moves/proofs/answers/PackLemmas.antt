-- Positions of a game with the same bytes are the same.
use Rattle.std.proofs.Common.{◌≡◌, ◌≤◌, length, map, arith}
use Rattle.std.proofs.lemmas.List.{length-map}
use Rattle.rbg_game.specs.Games.{Game}
use Rattle.rbg_game.specs.Sound.{IsSoundGame}
use Rattle.rbg_game.specs.Positions.{IsStateOf}
use Rattle.rbg_game.specs.declared.position.Position.{Position}
use Rattle.position_pack.specs.Shape.{Shape, IsSmall, Fits}
use Rattle.position_pack.specs.Bytes.{bytes_of}
use Rattle.position_pack.proofs.ShapeLemmas.{small_shape}
use Rattle.position_pack.proofs.OrderLemmas.{tell}
use Rattle.legal_moves.proofs.SoundLemmas.{bound_at}

-- the shape of all configurations of the game's searches
abbrev widest : Game → Shape
widest game = record {
  pieces = length game.pieces;
  bounds = map (λ v. v.bound) game.variables;
  vertices = length game.vertices;
  actions = 4096;
}

fits : (game : Game) (x : Position) → IsStateOf game x.state → x.place ≤ 4096 → Fits (widest game) x
fits game x state place = record {
  pieces_fit = state.pieces_fit;
  pieces_are = state.pieces_are;
  values_fit = omega (arith, state.values_fit, length-map game.variables (λ v. v.bound));
  values_are = λ v inside. omega (arith, state.values_are v inside, bound_at game.variables v);
  vertex_is = state.vertex_is;
  place_is = place;
}

pub bytes_tell : (game : Game) (x y : Position) → IsSoundGame game → IsStateOf game x.state → IsStateOf game y.state → x.place ≤ 4096
    → y.place ≤ 4096 → bytes_of x ≡ bytes_of y → x ≡ y
bytes_tell game x y sound state_x state_y place_x place_y same =
    let here = small_shape game sound in
    let small : IsSmall (widest game) = record {
      few_pieces = here.few_pieces;
      few_vertices = here.few_vertices;
      few_values = here.few_values;
      few_actions = omega arith;
      low_bounds = here.low_bounds;
    } in
    tell (widest game) x y small (fits game x state_x place_x) (fits game y state_y place_y) same
