-- What a table in memory stores.
use Rattle.std.specs.Prelude.{ℕ, List}
use Rattle.std.specs.BTreeSet.{contains}
use Rattle.retrograde.specs.declared.records.Counts.{Counts}
use Rattle.retrograde.specs.Stored.{Stored}
use Rattle.retrograde.specs.Changes.{counts_of}
use Rattle.table.specs.Memory.{bytes_of_each, edge_cmp}
use Rattle.table.specs.declared.memory.MemTable.{MemTable}

-- what a table in memory stores
abbrev pub stored_in : MemTable → Stored (List ℕ)
stored_in t = record {
  positions = bytes_of_each t.positions.items;
  records = t.records.items;
  has_edge = λ i p. contains edge_cmp t.edges (i, p);
  order = t.order.items;
}

-- how many positions of it are known, expanded, settled and processed
abbrev pub counted_in : MemTable → Counts
counted_in t = counts_of (stored_in t)
