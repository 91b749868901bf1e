use Rattle.std.proofs.Common.{◌≡◌, ◌++◌, take, codes}
use Rattle.std.specs.List.{flat_map}
use Rattle.session_lines.specs.Replies.{spaced}
use Rattle.session_lines.proofs.replies.numbers_line.Given as goal

abbrev pub invariant-loop-number : goal.invariant-loop-number
invariant-loop-number l = l.line.items ≡ codes "line" ++ flat_map spaced (take l.number-index l.numbers)
