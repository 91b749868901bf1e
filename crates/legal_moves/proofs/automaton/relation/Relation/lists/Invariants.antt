use Rattle.std.proofs.Common.{◌≡◌, ℕ, ◌<◌, length}
use Rattle.legal_moves.specs.lemmas.Relations.{IsRelated}
use Rattle.legal_moves.specs.NumberLists.{AreListed, list_at}
use Rattle.legal_moves.proofs.automaton.relation.Relation.lists.Given as goal

abbrev pub invariant-loop-row : goal.invariant-loop-row
invariant-loop-row l = record {
  many : length l.lists.items ≡ l.row-index;
  listed : (i : ℕ) → i < length l.lists.items → AreListed (IsRelated l.self i) (list_at l.lists.items i);
}
