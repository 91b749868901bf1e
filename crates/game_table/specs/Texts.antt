-- The text of a position's bytes.
use Rattle.std.specs.Prelude.{◌≡◌, ℕ, List}
use Rattle.rbg_game.specs.Games.{Game}
use Rattle.rbg_game.specs.declared.position.Position.{Position}
use Rattle.position_pack.specs.declared.kind.PackingKind.{PackingKind}
use Rattle.position_pack.specs.Shape.{shape_of}
use Rattle.position_pack.specs.Packings.{packed_by}
use Rattle.position_pack.specs.Spelled.{IsSpelled}

-- the bytes, by the packing of this kind, and the text are those of one position of the game
pub record IsText (kind : PackingKind) (game : Game) (bytes text : List ℕ) : Type 0 where
  pub at : Position
  pub spelled : IsSpelled game at text
  pub bytes_are : bytes ≡ packed_by kind (shape_of game) at
