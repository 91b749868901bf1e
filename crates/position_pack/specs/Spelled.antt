-- What a text and its parts spell.
use Rattle.std.specs.Prelude.{◌≡◌, ℕ, List}
use Rattle.rbg_game.specs.Games.{Game}
use Rattle.rbg_game.specs.Positions.{IsPositionOf}
use Rattle.rbg_game.specs.declared.position.Position.{Position}
use Rattle.position_pack.specs.Texts.{text_of}

-- the text is that of the position, which is one of the game's
pub record IsSpelled (game : Game) (at : Position) (text : List ℕ) : Type 0 where
  pub position : IsPositionOf game at
  pub text_is : text ≡ text_of game at
