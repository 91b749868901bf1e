-- A position as bytes, by packing 1.
use Rattle.std.specs.Prelude.{ℕ, List, ◌∷◌, ◌++◌}
use Rattle.std.specs.List.{flat_map}
use Rattle.std.specs.Int.{bytes_high_first}
use Rattle.rbg_game.specs.declared.position.Position.{Position}
use Rattle.position_pack.specs.Fields.{role_code}

-- a byte for each piece, three for each value, one for the vertex and the role, two for the place
abbrev pub bytes_of : Position → List ℕ
bytes_of at =
    at.state.pieces.items ++ flat_map
    (bytes_high_first 3) at.state.values.items ++ at.state.vertex ∷ role_code at.state.mover ∷ bytes_high_first 2 at.place
