use Rattle.std.proofs.Common.{ℕ, ◌⊎◌, ◌↔◌, Contains, take}
use Rattle.legal_moves.specs.lemmas.Relations.{IsRelated}
use Rattle.legal_moves.proofs.automaton.relation.Relation.relate_all.Given as goal

abbrev pub invariant-loop-left : goal.invariant-loop-left
invariant-loop-left l =
    (i j : ℕ) → IsRelated l.self i j ↔ (IsRelated l.initial.self i j ⊎ Contains (take l.left-index l.lefts) i × Contains l.rights j)
