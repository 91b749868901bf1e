-- What is searched, and what a search finds.
use Rattle.std.specs.Prelude.{ℕ, Bool, List, [], ◌∷◌, ◌++◌}
use Rattle.rbg_game.specs.declared.position.Position.{Position}
use Rattle.rbg_game.specs.Rules.{Regex}
use Rattle.rbg_game.specs.Games.{Game}
use Rattle.legal_moves.specs.Tables.{inner_of}

-- the expressions of a game that are searched: those of patterns, and last the rules
abbrev pub expressions_of : Game → List Regex
expressions_of game = inner_of game.rules ++ game.rules ∷ []

-- a semi-state with the number of the last action (0 at the opening), and how a search came to it: the index of the configuration
-- before, whether a shown move names the last action, and whether that is a switch, which ends a move
pub record Configuration : Type 0 where
  pub at : Position
  pub parent : ℕ
  pub shows : Bool
  pub ends : Bool
