use Rattle.std.proofs.Common.{◌≡◌, length}
use Rattle.retrograde.specs.Stored.{IsTable}
use Rattle.audit.specs.lemmas.Conditions.{AreFloors, distance_before}
use Rattle.table.specs.Frames.{IsRead}
use Rattle.audit.proofs.order.floors.Given as goal

abbrev pub invariant-loop-place : goal.invariant-loop-place
invariant-loop-place g l = record {
  lengths : length l.floors.items ≡ (g.T.Table.counted l.fn.table).known;
  read : IsRead g.T.Table.stored g.T.Table.is_honest g.T.Table.counted g.T.Table.stays l.fn.table l.table;
  last : g.T.Table.is_honest l.fn.table → IsTable (g.T.Table.stored l.fn.table) → l.last ≡ distance_before (g.T.Table.stored l.fn.table) l.place;
  floors : g.T.Table.is_honest l.fn.table → IsTable (g.T.Table.stored l.fn.table) → AreFloors (g.T.Table.stored l.fn.table) l.place l.floors.items;
}
