use Rattle.std.proofs.Common.{take}
use Rattle.legal_moves.specs.lemmas.Sets.{AreSets}
use Rattle.legal_moves.proofs.automaton.table.sets_of.Given as goal

abbrev pub invariant-loop-step : goal.invariant-loop-step
invariant-loop-step l = AreSets (take l.step-index l.steps) l.sets.items
