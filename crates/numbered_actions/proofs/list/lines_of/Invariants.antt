use Rattle.std.proofs.Common.{map, take}
use Rattle.numbered_actions.specs.Listed.{AreActionLines}
use Rattle.numbered_actions.specs.Tokens.{cut_of}
use Rattle.numbered_actions.proofs.list.lines_of.Given as goal

abbrev pub invariant-loop-index : goal.invariant-loop-index
invariant-loop-index l = AreActionLines l.text (take l.index (map (cut_of l.tokens) l.actions)) 1 l.lines.items
