use Rattle.std.proofs.Common.{◌≡◌, ◌++◌, take}
use Rattle.std.specs.List.{flat_map}
use Rattle.numbered_actions.specs.lemmas.Lines.{with_gap}
use Rattle.numbered_actions.proofs.lines.put_tokens.Given as goal

abbrev pub invariant-loop-token : goal.invariant-loop-token
invariant-loop-token l = l.line.items ≡ l.initial.line.items ++ flat_map with_gap (take l.token-index l.tokens)
