use Rattle.std.proofs.Common.{take}
use Rattle.std.specs.List.{AllZip}
use Rattle.retrograde.specs.Stored.{HasRecord}
use Rattle.table.specs.Frames.{IsRead}
use Rattle.audit.proofs.moves.records_of.Given as goal

abbrev pub invariant-loop-number : goal.invariant-loop-number
invariant-loop-number g l = record {
  read : IsRead g.T.Table.stored g.T.Table.is_honest g.T.Table.counted g.T.Table.stays l.fn.table l.table;
  records : g.T.Table.is_honest l.fn.table → AllZip (HasRecord (g.T.Table.stored l.fn.table)) (take l.number-index l.numbers) l.records.items;
}
