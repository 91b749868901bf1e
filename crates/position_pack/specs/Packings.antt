-- A position as bytes, by either packing.
use Rattle.std.specs.Prelude.{◌≡◌, ℕ, ◌+◌, ◌*◌, ◌/◌, List, length}
use Rattle.std.specs.List.{sum_by}
use Rattle.rbg_game.specs.Games.{Game}
use Rattle.rbg_game.specs.declared.position.Position.{Position}
use Rattle.position_pack.specs.declared.kind.PackingKind.{PackingKind}
use Rattle.position_pack.specs.declared.kind.PackingKind.TheVariants.{Bytes, Bits}
use Rattle.position_pack.specs.Shape.{Shape, shape_of, Fits}
use Rattle.position_pack.specs.Bytes.{bytes_of}
use Rattle.position_pack.specs.Bits.{width, greatest_of, bytes_by_bits}

-- how positions are packed: by bytes or by bits, and the ranges of their fields
pub record Form : Type 0 where
  pub kind : PackingKind
  pub shape : Shape

-- that of a game's positions
abbrev pub form_of : PackingKind → Game → Form
form_of kind game = record { kind = kind; shape = shape_of game }

-- the bytes of a position by packing 1 or 2
abbrev pub packed_by : PackingKind → Shape → Position → List ℕ
packed_by Bytes shape at = bytes_of at
packed_by Bits shape at = bytes_by_bits shape at

-- how many bytes each position has
abbrev pub length_by : PackingKind → Shape → ℕ
length_by Bytes shape = shape.vertices + 3 * length shape.bounds + 4
length_by Bits shape = (sum_by width (greatest_of shape) + 7) / 8

-- the bytes are those of the position, whose fields are in their ranges
pub record IsPacked (form : Form) (at : Position) (bytes : List ℕ) : Type 0 where
  pub fits : Fits form.shape at
  pub bytes_are : bytes ≡ packed_by form.kind form.shape at
