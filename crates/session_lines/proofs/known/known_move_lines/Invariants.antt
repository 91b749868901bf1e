use Rattle.std.proofs.Common.{◌≡◌, take}
use Rattle.std.specs.List.{flat_map}
use Rattle.rbg_game.specs.Meaning.{game_of}
use Rattle.session_lines.specs.Known.{known_line}
use Rattle.session_lines.proofs.known.known_move_lines.Given as goal

abbrev pub invariant-loop-known : goal.invariant-loop-known
invariant-loop-known l = l.text.items ≡ flat_map (known_line (game_of l.game)) (take l.known-index l.moves)
