-- The table that pages spell. Of pages that spell none it is some table, of which nothing is said.
use Rattle.std.specs.Prelude.{ℕ, zero, suc, ◌==◌, ◌&&◌, if◌then◌else◌, List, [], take, drop, map, slice_index, unwrap_or, nat_lt}
use Rattle.std.specs.List.{flat_map, range_with_len}
use Rattle.std.specs.Option.{is_some}
use Rattle.byteorder.specs.Endian.{big_number}
use Rattle.retrograde.specs.declared.records.Record.{Record}
use Rattle.retrograde.specs.Stored.{Stored}
use Rattle.table.specs.Records.{state_in, winner_in}
use Rattle.game_file.specs.declared.sizes.Sizes.{Sizes}
use Rattle.btree.specs.Page.{Item, items_of, count_in, child_of}
use Rattle.btree.specs.Entries.{find_entry}
use Rattle.tree_table.specs.declared.slot.TreeSlot.{TreeSlot}
use Rattle.tree_table.specs.declared.tree.Tree.{Tree}
use Rattle.tree_table.specs.declared.tree.Tree.TheVariants.{Records, Edges, Order}
use Rattle.tree_table.specs.Trees.{key_width, value_width, root_of}
use Rattle.tree_table.specs.Entries.{number_key, edge_key}

-- the entries below this page as its first byte tells its kind, this many levels down at most
unfoldable pub entries_down : ℕ → ℕ → (ℕ → List ℕ) → ℕ → ℕ → List Item
entries_down key value bytes zero page = []
entries_down key value bytes (suc levels) page =
    if slice_index (bytes page) 0 == 1 then items_of key value (count_in (bytes page)) (drop 4 (bytes page))
    else flat_map (λ c. entries_down key value bytes levels (child_of c)) (items_of key 4 (count_in (bytes page)) (drop 4 (bytes page)))

-- the entries below this root, none below 0
unfoldable pub entries_at : ℕ → ℕ → (ℕ → List ℕ) → ℕ → List Item
entries_at key value bytes root = if root == 0 then [] else entries_down key value bytes 24 root

-- the record of 16 bytes
unfoldable pub record_in : List ℕ → Record
record_in bytes = record {
  state = state_in (slice_index bytes 0);
  winner = winner_in (slice_index bytes 1);
  distance = big_number 4 (drop 4 bytes);
  left = big_number 4 (drop 8 bytes);
  successors = big_number 4 (drop 12 bytes);
}

-- what stands at a number's key
abbrev pub value_at : List Item → ℕ → List ℕ
value_at es i = unwrap_or (find_entry es (number_key i)) []

-- the table with these entries of its trees, of each as much as these sizes tell
unfoldable pub table_of : Sizes → (Tree → List Item) → Stored (List ℕ)
table_of sizes entries = record {
  positions = map (λ i. take sizes.packed (value_at (entries Records) i)) (range_with_len 0 sizes.counts.known);
  records = map (λ i. record_in (drop sizes.packed (value_at (entries Records) i))) (range_with_len 0 sizes.counts.known);
  has_edge = λ i p. nat_lt i sizes.counts.known && nat_lt p sizes.counts.known && is_some (find_entry (entries Edges) (edge_key i p));
  order = map (λ k. big_number 4 (value_at (entries Order) k)) (range_with_len 0 sizes.counts.settled);
}

-- the entries of a tree that this slot names
abbrev pub entries_in : TreeSlot → (ℕ → List ℕ) → Tree → List Item
entries_in slot bytes tree =
    entries_at (key_width slot.sizes.packed tree) (value_width slot.sizes.packed tree) bytes (root_of slot.roots tree)

-- the table that this slot and these pages spell
unfoldable pub table_in : TreeSlot → (ℕ → List ℕ) → Stored (List ℕ)
table_in slot bytes = table_of slot.sizes (entries_in slot bytes)
