use Rattle.std.proofs.Common.{◌≡◌, ◌-◌, ◌*◌, ◌+◌, ℕ, List, ◌++◌, length}
use Rattle.earlier_layouts.specs.lemmas.ImageReads.{AreCells, KeepsRest}
use Rattle.earlier_layouts.proofs.image.read_cells.read_cells.Given as goal

abbrev pub invariant-loop-number : goal.invariant-loop-number
invariant-loop-number g l = record {
  honest : g.T.Table.is_honest l.table;
  many : length (g.T.Table.stored l.table).positions ≡ l._number;
  long : length l.rest ≡ (l.known - l._number) * (l.packed + 16);
  done : List ℕ;
  split : l.cells ≡ done ++ l.rest;
  read : AreCells l.packed done (g.T.Table.stored l.table);
  kept : KeepsRest (g.T.Table.stored l.fn.table) (g.T.Table.stored l.table);
}
