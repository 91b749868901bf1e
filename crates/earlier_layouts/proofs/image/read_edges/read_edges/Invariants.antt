use Rattle.std.proofs.Common.{◌≡◌, ◌-◌, ◌*◌, ℕ, List, ◌++◌, length}
use Rattle.earlier_layouts.specs.lemmas.ImageReads.{ChangesEdges}
use Rattle.earlier_layouts.proofs.EdgeLemmas.{EdgesSoFar}
use Rattle.earlier_layouts.proofs.image.read_edges.read_edges.Given as goal

abbrev pub invariant-loop-edge : goal.invariant-loop-edge
invariant-loop-edge g l = record {
  honest : g.T.Table.is_honest l.table;
  long : length l.rest ≡ 8 * (l.edges - l._edge);
  done : List ℕ;
  split : l.bytes ≡ done ++ l.rest;
  so_far : EdgesSoFar done l._edge l.before (g.T.Table.stored l.table);
  kept : ChangesEdges (g.T.Table.stored l.fn.table) (g.T.Table.stored l.table);
}
