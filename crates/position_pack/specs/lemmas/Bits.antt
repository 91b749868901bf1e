-- Fields by bits.
use Rattle.std.specs.Prelude.{◌≡◌, ℕ, ◌+◌, ◌-◌, ◌≤◌, ◌<◌, ⊤, List, [], ◌∷◌, length, slice_index}
use Rattle.rbg_game.specs.declared.position.Position.{Position}
use Rattle.position_pack.specs.Fields.{fields_of}
use Rattle.position_pack.specs.Bits.{field_bits, bytes_of_bits}

-- as many, and each number is at most the other of its place
abbrev pub AreFieldsAtMost : List ℕ → List ℕ → Type 0
AreFieldsAtMost [] [] = ⊤
AreFieldsAtMost [] (x ∷ xs) = ⊥
AreFieldsAtMost (most ∷ greatest) [] = ⊥
AreFieldsAtMost (most ∷ greatest) (x ∷ xs) = (x ≤ most) × AreFieldsAtMost greatest xs

-- the fields are within their greatest values, and the bytes are theirs by bits
pub record AreFields (greatest bytes fields : List ℕ) : Type 0 where
  pub within : AreFieldsAtMost greatest fields
  pub bytes_are : bytes ≡ bytes_of_bits (field_bits greatest fields)

-- this many pieces, at most 34 values, a vertex, a role and a place, each in the range of its type
pub record AreInRange (vertices : ℕ) (fields : List ℕ) : Type 0 where
  pub few_vertices : vertices ≤ 128
  pub long : vertices + 3 ≤ length fields
  pub few_values : length fields ≤ vertices + 37
  pub pieces : (k : ℕ) → k < vertices → slice_index fields k < 256
  pub vertex : slice_index fields (length fields - 3) < 256
  pub role : slice_index fields (length fields - 2) ≤ 2
  pub place : slice_index fields (length fields - 1) < 65536

-- the fields are those of the position, which has this many pieces
pub record IsFieldsOf (vertices : ℕ) (fields : List ℕ) (at : Position) : Type 0 where
  pub fields_are : fields_of at ≡ fields
  pub pieces_fit : length at.state.pieces.items ≡ vertices
