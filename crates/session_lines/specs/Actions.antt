-- What `actions` tells of a game.
use Rattle.std.specs.Prelude.{◌≡◌, ℕ, List}
use Rattle.rbg_text.specs.Token.{Text}
use Rattle.rbg_game.specs.Games.{Game}
use Rattle.numbered_actions.specs.Listed.{ListsActions}

-- the status and what is written: the lines of the numbered actions of the game, as they stand in its text
abbrev pub TellsActions : Text → Game → ℕ → List ℕ → Type 0
TellsActions text game status lines = (status ≡ 0) × ListsActions text game lines
