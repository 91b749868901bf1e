-- The conditions of audit with the second one counted by the edges from a number, where audit counts its successors.
use Rattle.std.specs.Prelude.{◌≡◌, ℕ, ◌≤◌, ◌<◌, ◌&&◌, true, not, length}
use Rattle.rbg_game.specs.declared.roles.Role.{Role}
use Rattle.retrograde.specs.declared.records.Record.{Record}
use Rattle.retrograde.specs.Graph.{Graph}
use Rattle.retrograde.specs.View.{HasNumber}
use Rattle.retrograde.specs.Stored.{Stored, HasRecord, view_of, expanded_count, count_below}
use Rattle.retrograde.specs.Audit.{IsReached, EdgesAreMoves, IsProcessedLate, IsNoNearer}
use Rattle.retrograde.specs.Audit.{IsSettledAtTheEnd, IsSettledByItsMoves, IsUnsettledBefore}

-- each move from i has its edge; the record has the count of the edges from i, and of those to positions not processed
pub record CountsItsEdges {P : Type 0} (graph : Graph P) (stored : Stored P) (i : ℕ) (x : P) : Type 0 where
  pub each : (y : P) → graph.Successor x y → (j : ℕ) × HasNumber (view_of stored) j y × (stored.has_edge j i ≡ true)
  pub successors : (r : Record) → HasRecord stored i r
      → r.successors ≡ count_below (length stored.positions) (λ j. stored.has_edge j i)
  pub left : (r : Record) → HasRecord stored i r
      → r.left ≡ count_below (length stored.positions) (λ j. stored.has_edge j i && not ((view_of stored).processed j))
  pub keeper : (r : Record) → HasRecord stored i r → graph.mover x ≡ Role.Keeper → r.successors ≤ 1

-- the seven conditions, the second one by the edges
pub record IsSoundByEdgesAt {P : Type 0} (graph : Graph P) (stored : Stored P) (i : ℕ) (x : P) : Type 0 where
  pub reached : IsReached graph stored i x
  pub edges_are_moves : EdgesAreMoves graph stored i x
  pub moves_are_edges : i < expanded_count stored → CountsItsEdges graph stored i x
  pub late : IsProcessedLate stored i
  pub no_nearer : IsNoNearer stored i
  pub ended : IsSettledAtTheEnd graph stored i x
  pub moving : IsSettledByItsMoves graph stored i x
  pub waiting : IsUnsettledBefore stored i
