use Rattle.std.proofs.Common.{◌≡◌, ◌<◌, All, Some, slice_get, take}
use Rattle.std.specs.List.{AllZip}
use Rattle.table.specs.Memory.{bytes_of_each}
use Rattle.table.specs.Frames.{IsRead}
use Rattle.audit.proofs.moves.numbers_of.Given as goal

abbrev pub invariant-loop-position : goal.invariant-loop-position
invariant-loop-position g l = record {
  within : All (λ j. j < (g.T.Table.counted l.fn.table).known) l.numbers.items;
  read : IsRead g.T.Table.stored g.T.Table.is_honest g.T.Table.counted g.T.Table.stays l.fn.table l.table;
  numbers : g.T.Table.is_honest l.fn.table → AllZip (λ y j. slice_get (g.T.Table.stored l.fn.table).positions j ≡ Some y)
      (take l.position-index (bytes_of_each l.positions)) l.numbers.items;
}
