-- The positions and the moves of a game, by their bytes.
use Rattle.std.specs.Prelude.{◌≡◌, ℕ, zero, suc, ◌+◌, ◌*◌, nat_lt, List, length, Option, None, Some, slice_index, if◌then◌else◌}
use Rattle.rbg_game.specs.Games.{Game}
use Rattle.rbg_game.specs.Positions.{IsPositionOf}
use Rattle.rbg_game.specs.declared.roles.Player.{Player}
use Rattle.rbg_game.specs.declared.roles.Player.TheVariants.{First, Second}
use Rattle.rbg_game.specs.declared.roles.Role.{Role}
use Rattle.rbg_game.specs.declared.roles.Role.TheVariants as role
use Rattle.rbg_game.specs.declared.position.Position.{Position}
use Rattle.position_pack.specs.declared.kind.PackingKind.{PackingKind}
use Rattle.position_pack.specs.declared.kind.PackingKind.TheVariants.{Bytes, Bits}
use Rattle.position_pack.specs.Shape.{shape_of}
use Rattle.position_pack.specs.Bits.{field_at}
use Rattle.position_pack.specs.Packings.{packed_by}
use Rattle.retrograde.specs.Graph.{Graph}
use Rattle.legal_moves.specs.Moves.{IsSuccessor, start_of}
use Rattle.legal_moves.specs.Searches.{IsWide}

-- the bytes are those of a position of the game, by the packing of this kind
pub record IsAt (kind : PackingKind) (game : Game) (x : List ℕ) (at : Position) : Type 0 where
  pub position_is : IsPositionOf game at
  pub bytes_are : x ≡ packed_by kind (shape_of game) at

abbrev pub IsPositionBytes : PackingKind → Game → List ℕ → Type 0
IsPositionBytes kind game x = (at : Position) × IsAt kind game x at

-- a move leads from the position of the first bytes to that of the others
abbrev pub IsMoveBetween : PackingKind → Game → List ℕ → List ℕ → Type 0
IsMoveBetween kind game x y = (at next : Position) × IsAt kind game x at × IsAt kind game y next × IsSuccessor game at next

-- the search for the moves of the position reaches too many
abbrev pub IsWideAt : PackingKind → Game → List ℕ → Type 0
IsWideAt kind game x = (at : Position) × IsAt kind game x at × IsWide game at

-- the role of a number
abbrev pub role_by : ℕ → Role
role_by zero = role.Keeper
role_by (suc zero) = role.Player First
role_by (suc (suc zero)) = role.Player Second
role_by (suc (suc (suc n))) = role.Keeper

-- the role is after the pieces, the values and the vertex
abbrev pub role_in : PackingKind → Game → List ℕ → Role
role_in Bytes game x = role_by (slice_index x (length game.vertices + 3 * length game.variables + 1))
role_in Bits game x = role_by (field_at (shape_of game) (length game.vertices + length game.variables + 1) x)

-- the number in three bytes, the highest first
abbrev pub value_in : List ℕ → ℕ → ℕ
value_in x i = slice_index x i * 65536 + slice_index x (i + 1) * 256 + slice_index x (i + 2)

-- who has more points
abbrev pub more_of : ℕ → ℕ → Option Player
more_of first second = if nat_lt second first then Some First else if nat_lt first second then Some Second else None

-- who has at least this many points while the other has fewer
abbrev pub alone_at : ℕ → ℕ → ℕ → Option Player
alone_at points first second =
    if nat_lt first points then (if nat_lt second points then None else Some Second)
    else (if nat_lt second points then Some First else None)

-- who is ahead by the two scores, without a goal and with one
abbrev pub leader : Option ℕ → ℕ → ℕ → Option Player
leader None first second = more_of first second
leader (Some points) first second = alone_at points first second

-- the scores are after the pieces
abbrev pub leader_in : PackingKind → Option ℕ → Game → List ℕ → Option Player
leader_in Bytes goal game x = leader goal (value_in x (length game.vertices)) (value_in x (length game.vertices + 3))
leader_in Bits goal game x =
    leader goal (field_at (shape_of game) (length game.vertices) x) (field_at (shape_of game) (length game.vertices + 1) x)

-- the game as a graph of the bytes of its positions, by the packing of this kind, without a goal or with this one
abbrev pub graph_of : PackingKind → Option ℕ → Game → Graph (List ℕ)
graph_of kind goal game = record {
  start = packed_by kind (shape_of game) (start_of game);
  mover = role_in kind game;
  ahead = leader_in kind goal game;
  Successor = IsMoveBetween kind game;
}
