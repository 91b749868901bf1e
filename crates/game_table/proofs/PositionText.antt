-- The text of a position's bytes.
use Rattle.std.proofs.Common.{◌≡◌, ℕ, List}
use Rattle.rbg_game.specs.Games.{Game}
use Rattle.rbg_game.specs.declared.position.Position.{Position}
use Rattle.position_pack.specs.declared.kind.PackingKind.{PackingKind}
use Rattle.position_pack.specs.Packings.{form_of, IsPacked}
use Rattle.position_pack.specs.Texts.{text_of}
use Rattle.position_pack.proofs.ShapeLemmas.{fits, is_position}
use Rattle.game_table.specs.Texts.{IsText}

-- bytes that are packed have the text of their position
pub shown : (kind : PackingKind) (game : Game) (at : Position) (bytes text : List ℕ) → IsPacked (form_of kind game) at bytes
    → text ≡ text_of game at → IsText kind game bytes text
shown kind game at bytes text packed is = record {
  at = at;
  spelled = record { position = is_position game at packed.fits; text_is = is };
  bytes_are = packed.bytes_are;
}

-- bytes with a text are packed
pub packed_as : (kind : PackingKind) (game : Game) (bytes text : List ℕ) → (it : IsText kind game bytes text) → IsPacked (form_of kind game) it.at bytes
packed_as kind game bytes text it = record { fits = fits game it.at it.spelled.position; bytes_are = it.bytes_are }
