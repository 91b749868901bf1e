use Rattle.std.proofs.Common.{◌≡◌, ◌<◌, ℕ, List, slice_get, Some}
use Rattle.table.specs.Frames.{IsRead}
use Rattle.game_table.specs.lemmas.Tables.{IsPackedBytes}
use Rattle.game_table.proofs.packings.are_packed.Given as goal

abbrev pub invariant-loop-number : goal.invariant-loop-number
invariant-loop-number g l = record {
  packing : l.packing ≡ l.fn.packing;
  read : IsRead g.T.Table.stored g.T.Table.is_honest g.T.Table.counted g.T.Table.stays l.fn.table l.table;
  packed : g.T.Table.is_honest l.fn.table → (i : ℕ) (x : List ℕ) → i < l.number
      → slice_get (g.T.Table.stored l.fn.table).positions i ≡ Some x → IsPackedBytes l.fn.packing x;
}
