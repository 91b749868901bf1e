use Rattle.std.proofs.Common.{◌<◌}
use Rattle.legal_moves.specs.lemmas.Marks.{IsMarkSet}
use Rattle.legal_moves.specs.NumberLists.{AreListed}
use Rattle.legal_moves.proofs.automaton.relation.listed.Given as goal

abbrev pub invariant-loop-number : goal.invariant-loop-number
invariant-loop-number l = AreListed (λ k. IsMarkSet l.row k × (k < l.number)) l.list.items
