use Rattle.std.proofs.Common.{◌≡◌, take}
use Rattle.std.specs.List.{flat_map}
use Rattle.rbg_game.specs.Meaning.{game_of}
use Rattle.session_lines.specs.Replies.{row_line}
use Rattle.session_lines.proofs.replies.row_lines.Given as goal

abbrev pub invariant-loop-row : goal.invariant-loop-row
invariant-loop-row l = l.text.items ≡ flat_map (row_line (game_of l.game)) (take l.row-index l.rows)
