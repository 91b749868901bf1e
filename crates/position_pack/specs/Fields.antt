-- The fields of a position, as numbers.
use Rattle.std.specs.Prelude.{ℕ, List, [], ◌∷◌, ◌++◌}
use Rattle.rbg_game.specs.declared.roles.Player.TheVariants.{First, Second}
use Rattle.rbg_game.specs.declared.roles.Role.{Role}
use Rattle.rbg_game.specs.declared.roles.Role.TheVariants.{Keeper, Player}
use Rattle.rbg_game.specs.declared.position.Position.{Position}

-- 0 for the keeper, 1 and 2 for the players
abbrev pub role_code : Role → ℕ
role_code Keeper = 0
role_code (Player First) = 1
role_code (Player Second) = 2

-- the fields in their order: the pieces by vertices, the two scores and the variables, the vertex, the role, the place
abbrev pub fields_of : Position → List ℕ
fields_of at =
    at.state.pieces.items ++ at.state.values.items ++ at.state.vertex ∷ role_code at.state.mover ∷ at.place ∷ []
