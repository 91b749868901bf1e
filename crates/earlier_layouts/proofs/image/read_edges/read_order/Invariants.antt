use Rattle.std.proofs.Common.{◌≡◌, ◌-◌, ◌*◌, ℕ, List, ◌++◌, length}
use Rattle.earlier_layouts.specs.lemmas.ImageReads.{AddsOrder}
use Rattle.earlier_layouts.proofs.image.read_edges.read_order.Given as goal

abbrev pub invariant-loop-place : goal.invariant-loop-place
invariant-loop-place g l = record {
  honest : g.T.Table.is_honest l.table;
  long : length l.rest ≡ 4 * (l.settled - l._place);
  done : List ℕ;
  split : l.bytes ≡ done ++ l.rest;
  so_far : AddsOrder done l._place (g.T.Table.stored l.fn.table) (g.T.Table.stored l.table);
}
