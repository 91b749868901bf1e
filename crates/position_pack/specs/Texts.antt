-- The text of a position: `ROLE PLACE VERTEX PIECES VALUES`.
use Rattle.std.specs.Prelude.{ℕ, List, [], ◌∷◌, ◌++◌, map, codes, slice_get, option_map, unwrap_or}
use Rattle.std.specs.List.{flat_map}
use Rattle.std.specs.Fmt.{decimal}
use Rattle.rbg_game.specs.Games.{Game}
use Rattle.rbg_game.specs.declared.roles.Player.TheVariants.{First, Second}
use Rattle.rbg_game.specs.declared.roles.Role.{Role}
use Rattle.rbg_game.specs.declared.roles.Role.TheVariants.{Keeper, Player}
use Rattle.rbg_game.specs.declared.position.Position.{Position}

-- the name of a variable by its place; the players are the first two
abbrev pub variable_name : Game → ℕ → List ℕ
variable_name game k = unwrap_or (option_map (λ v. v.name) (slice_get game.variables k)) []

abbrev pub piece_name : Game → ℕ → List ℕ
piece_name game k = unwrap_or (slice_get game.pieces k) []

abbrev pub vertex_name : Game → ℕ → List ℕ
vertex_name game k = unwrap_or (option_map (λ v. v.name) (slice_get game.vertices k)) []

-- `>>` for the keeper, or the player's name
abbrev pub role_text : Game → Role → List ℕ
role_text game Keeper = codes ">>"
role_text game (Player First) = variable_name game 0
role_text game (Player Second) = variable_name game 1

-- with a comma before each but the first
abbrev pub with_commas : List (List ℕ) → List ℕ
with_commas [] = []
with_commas (x ∷ xs) = x ++ flat_map (λ y. 44 ∷ y) xs

-- the role, the place, the vertex, the pieces by vertices and the values in order, with one space between
abbrev pub text_of : Game → Position → List ℕ
text_of game at =
    role_text game at.state.mover ++ 32 ∷ decimal at.place ++ 32 ∷ vertex_name game at.state.vertex
    ++ 32 ∷ with_commas (map (piece_name game) at.state.pieces.items) ++ 32 ∷ with_commas (map decimal at.state.values.items)
