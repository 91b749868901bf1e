use Rattle.std.proofs.Common.{◌≡◌, ◌<◌, ℕ, true, get_or}
use Rattle.table.specs.Frames.{IsRead}
use Rattle.audit.proofs.moves.has_edges.Given as goal

abbrev pub invariant-loop-number : goal.invariant-loop-number
invariant-loop-number g l = record {
  read : IsRead g.T.Table.stored g.T.Table.is_honest g.T.Table.counted g.T.Table.stays l.fn.table l.table;
  all : g.T.Table.is_honest l.fn.table → (k d : ℕ) → k < l.number-index → (g.T.Table.stored l.fn.table).has_edge (get_or l.numbers k d) l.from ≡ true;
}
