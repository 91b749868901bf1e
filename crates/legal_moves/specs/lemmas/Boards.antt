-- The boards of a search, one behind the other.
use Rattle.std.specs.Prelude.{◌≡◌, ℕ, zero, suc, ◌*◌, ◌≤◌, List, [], ◌∷◌, length, take, drop, slice_get, unwrap_or}
use Rattle.rbg_game.specs.declared.position.SemiState.{SemiState}
use Rattle.rbg_game.specs.declared.roles.Role.{Role}
use Rattle.rbg_game.specs.declared.roles.Role.TheVariants.{Keeper}
use Rattle.legal_moves.specs.declared.search.boards.Boards.{Boards}

-- the semi-state with this turn and this vertex
abbrev pub at_turn : SemiState → Role → ℕ → SemiState
at_turn S mover v = record S { mover = mover; vertex = v }

-- both tell the same but for the turn and the vertex
abbrev pub IsSameBoard : SemiState → SemiState → Type 0
IsSameBoard A B = at_turn A B.mover B.vertex ≡ B

-- a board: the turn and the vertex of such a semi-state say nothing
abbrev pub board_of : List ℕ → List ℕ → SemiState
board_of pieces values = record {
  mover = Keeper;
  pieces = record { items = pieces };
  values = record { items = values };
  vertex = 0;
}

-- the board with the number
abbrev pub board_at : List SemiState → ℕ → SemiState
board_at boards number = unwrap_or (slice_get boards number) (board_of [] [])

-- n boards, each of the next v pieces and the next w values
abbrev pub boards_from : ℕ → ℕ → ℕ → List ℕ → List ℕ → List SemiState
boards_from v w zero pieces values = []
boards_from v w (suc n) pieces values =
    board_of (take v pieces) (take w values) ∷ boards_from v w n (drop v pieces) (drop w values)

-- all boards
abbrev pub boards_in : Boards → List SemiState
boards_in b = boards_from b.vertices b.variables b.count b.pieces.items b.values.items

-- each has its pieces and values, which a semi-state has room for
pub record AreWhole (b : Boards) : Type 0 where
  pub pieces_are : length b.pieces.items ≡ b.count * b.vertices
  pub values_are : length b.values.items ≡ b.count * b.variables
  pub pieces_fit : b.vertices ≤ 128
  pub values_fit : b.variables ≤ 34

-- the semi-state has as many pieces and values as each board
pub record IsAsLarge (b : Boards) (S : SemiState) : Type 0 where
  pub pieces_are : length S.pieces.items ≡ b.vertices
  pub values_are : length S.values.items ≡ b.variables
