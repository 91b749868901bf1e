use Rattle.std.proofs.Common.{◌≡◌, ℕ, suc, ◌-◌, length}
use Rattle.legal_moves.specs.lemmas.Relations.{row_of}
use Rattle.legal_moves.proofs.automaton.relation.Relation.grow.Given as goal

abbrev pub invariant-loop-alloc : goal.invariant-loop-alloc
invariant-loop-alloc l = (i : ℕ) → row_of l.self i ≡ row_of l.initial.self i

abbrev pub decreases-loop-alloc : goal.decreases-loop-alloc
decreases-loop-alloc l = suc l.left - length l.self.rows.items
