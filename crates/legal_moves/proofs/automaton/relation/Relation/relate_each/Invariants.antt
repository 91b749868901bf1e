use Rattle.std.proofs.Common.{◌≡◌, ℕ, ◌⊎◌, ◌↔◌, Contains, take}
use Rattle.legal_moves.specs.lemmas.Relations.{IsRelated}
use Rattle.legal_moves.proofs.automaton.relation.Relation.relate_each.Given as goal

abbrev pub invariant-loop-right : goal.invariant-loop-right
invariant-loop-right l =
    (i j : ℕ) → IsRelated l.self i j ↔ (IsRelated l.initial.self i j ⊎ (i ≡ l.left) × Contains (take l.right-index l.rights) j)
