-- Laws of packing, each the contract of a function.
use Rattle.std.specs.Prelude.{◌≡◌, ◌↔◌, ℕ, ◌^◌, ◌<◌, ◌≤◌, List, ◌++◌, length, slice_index, replicate}
use Rattle.std.specs.List.{flat_map}
use Rattle.std.specs.Cmp.Lexicographic.{slice_cmp}
use Rattle.std.specs.Ordering.{nat_cmp}
use Rattle.rbg_game.specs.Games.{Game}
use Rattle.rbg_game.specs.Sound.{IsSoundGame}
use Rattle.rbg_game.specs.Names.{HasProperNames}
use Rattle.rbg_game.specs.Positions.{IsPositionOf}
use Rattle.rbg_game.specs.declared.position.Position.{Position}
use Rattle.position_pack.specs.Shape.{Shape, shape_of, IsSmall, Fits}
use Rattle.position_pack.specs.Fields.{fields_of}
use Rattle.position_pack.specs.declared.kind.PackingKind.{PackingKind}
use Rattle.position_pack.specs.Bits.{width, bits_of, greatest_of, field_bits, bytes_by_bits, field_at}
use Rattle.position_pack.specs.Packings.{Form, packed_by, length_by, IsPacked}
use Rattle.position_pack.specs.Texts.{text_of}

-- the positions of a game are those whose fields are in the ranges of its shape
abbrev pub PositionsFit : Type 0
PositionsFit = (game : Game) (at : Position) → IsPositionOf game at ↔ Fits (shape_of game) at

-- a game within its limits has a small shape
abbrev pub GamesAreSmall : Type 0
GamesAreSmall = (game : Game) → IsSoundGame game → IsSmall (shape_of game)

-- this many bits are the fewest: the greatest value is below that power of two, and below no lower one
abbrev pub WidthsAreFewest : Type 0
WidthsAreFewest = (most : ℕ) → most < 2 ^ 32 → (most < 2 ^ width most) × ((b : ℕ) → most < 2 ^ b → width most ≤ b)

-- the bits of the bytes, by packing 2, are those of the fields and then zeros, fewer than eight
abbrev pub BitsArePadded : Type 0
BitsArePadded =
    (shape : Shape) (at : Position) → (zeros : ℕ) × (zeros < 8)
    × (flat_map (bits_of 8) (bytes_by_bits shape at) ≡ field_bits (greatest_of shape) (fields_of at) ++ replicate zeros 0)

-- two positions with the same bytes are the same
abbrev pub BytesTell : Type 0
BytesTell =
    (kind : PackingKind) (shape : Shape) (x y : Position) → IsSmall shape → Fits shape x → Fits shape y
    → packed_by kind shape x ≡ packed_by kind shape y → x ≡ y

-- the order of the bytes is the dictionary order of the fields
abbrev pub BytesOrder : Type 0
BytesOrder =
    (kind : PackingKind) (shape : Shape) (x y : Position) → IsSmall shape → Fits shape x → Fits shape y
    → slice_cmp nat_cmp (packed_by kind shape x) (packed_by kind shape y) ≡ slice_cmp nat_cmp (fields_of x) (fields_of y)

-- all positions have this many bytes
abbrev pub BytesAreAsMany : Type 0
BytesAreAsMany =
    (kind : PackingKind) (shape : Shape) (at : Position) → Fits shape at
    → length (packed_by kind shape at) ≡ length_by kind shape

-- bytes are packed from a position exactly where they are read as that position and as no other
abbrev pub PackingIsUndone : Type 0
PackingIsUndone =
    (form : Form) (at : Position) (bytes : List ℕ) → IsSmall form.shape → Fits form.shape at
    → (bytes ≡ packed_by form.kind form.shape at) ↔ ((other : Position) → IsPacked form other bytes ↔ (other ≡ at))

-- what the bytes of a position by packing 2 say of each field by itself is that field
abbrev pub FieldsAreRead : Type 0
FieldsAreRead =
    (shape : Shape) (at : Position) (k : ℕ) → IsSmall shape → Fits shape at → k < length (fields_of at)
    → field_at shape k (bytes_by_bits shape at) ≡ slice_index (fields_of at) k

-- two positions of a game with the same text are the same
abbrev pub TextsTell : Type 0
TextsTell =
    (game : Game) (x y : Position) → IsSoundGame game → HasProperNames game → IsPositionOf game x → IsPositionOf game y
    → text_of game x ≡ text_of game y → x ≡ y
