-- A game as a graph of its positions.
use Rattle.std.specs.Prelude.{ℕ, Option}
use Rattle.rbg_game.specs.Games.{Game}
use Rattle.rbg_game.specs.declared.roles.Player.TheVariants.{First, Second}
use Rattle.rbg_game.specs.declared.position.Position.{Position}
use Rattle.legal_moves.specs.Moves.{IsSuccessor, start_of, score}
use Rattle.legal_moves.specs.Sources.{leader}
use Rattle.retrograde.specs.Graph.{Graph}

-- where play starts, who has the turn, who is ahead without a goal or with this one, and where a move can lead
abbrev pub play_of : Option ℕ → Game → Graph Position
play_of goal game = record {
  start = start_of game;
  mover = λ at. at.state.mover;
  ahead = λ at. leader goal (score First at.state) (score Second at.state);
  Successor = IsSuccessor game;
}
