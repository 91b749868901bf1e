-- A table held by pages, once an entry was put into its trees.
use Rattle.std.proofs.Common.{◌≡◌, ℕ, ◌+◌, ◌^◌, ◌<◌, ◌≤◌, List, [], ◌∷◌, ◌++◌, length, zip, Some, None, refl, sym, ◌∙◌, ap, subst, arith, length-append}
use Rattle.std.specs.Prelude.{slice_get}
use Rattle.std.proofs.lemmas.List.{length-set}
use Rattle.page_store.specs.Store.{Store, reads}
use Rattle.retrograde.specs.declared.records.Counts.{Counts}
use Rattle.retrograde.specs.declared.records.Record.{Record}
use Rattle.retrograde.specs.Stored.{Stored, HasRecord, is_expanded, is_processed}
use Rattle.retrograde.specs.Changes.{fresh_record, with_position, with_record, with_edge, with_settled}
use Rattle.game_file.specs.Bytes.{IsCell, IsNumber, IsPlainCell}
use Rattle.game_file.specs.declared.sizes.Sizes.{Sizes}
use Rattle.btree.specs.Page.{Item}
use Rattle.btree.specs.Entries.{find_entry, put_entry}
use Rattle.position_pack.specs.declared.kind.PackingKind.{PackingKind}
use Rattle.tree_table.specs.declared.slot.TreeSlot.{TreeSlot}
use Rattle.tree_table.specs.declared.tree.Roots.{Roots}
use Rattle.tree_table.specs.declared.tree.Tree.{Tree}
use Rattle.tree_table.specs.declared.tree.Tree.TheVariants.{Positions, Records, Edges, Order}
use Rattle.tree_table.specs.Entries.{number_key, edge_key, AreByNumber}
use Rattle.tree_table.specs.Forest.{IsForest}
use Rattle.tree_table.specs.WorkTable.{HoldsForest, HoldsTable, with_entry}
use Rattle.tree_table.specs.lemmas.Slots.{counts_with, recounted}
use Rattle.tree_table.proofs.ByKey.{number_pushed, number_set, position_pushed, edge_added, edge_again, edges_fit}
use Rattle.tree_table.specs.lemmas.Lists.{push_long, zip_push, zip_long, zip_set, count_push, recounted_is}
use Rattle.tree_table.specs.lemmas.Numbers.{key_number}
use Rattle.tree_table.proofs.Puts.{one_more}

-- the slot with this packing, goal, roots and sizes
abbrev pub slot_of : PackingKind → ℕ → ℕ → Sizes → Roots → TreeSlot
slot_of p g f s r = record { packing = p; goal = g; first = f; sizes = s; roots = r }

-- this many positions are known
abbrev pub known_as : Sizes → ℕ → Sizes
known_as sizes n = record sizes { counts = record sizes.counts { known = n } }

-- this many positions are settled
abbrev pub settled_as : Sizes → ℕ → Sizes
settled_as sizes n = record sizes { counts = record sizes.counts { settled = n } }

-- counts are these
abbrev pub counted_as : Sizes → Counts → Sizes
counted_as sizes c = record sizes { counts = c }

-- this many edges
abbrev pub edges_as : Sizes → ℕ → Sizes
edges_as sizes n = record sizes { edges = n }

-- what is written of a cell is a cell
pub plain_cell : (packed : ℕ) (bytes : List ℕ) (cell : List ℕ × Record) → IsPlainCell packed bytes cell → IsCell packed bytes cell
plain_cell packed bytes cell plain = record { long = plain.long; behind = plain.behind; is = plain.is; is_record = plain.is_record.is }

-- how long it is
pub plain_long : (packed : ℕ) (bytes : List ℕ) (cell : List ℕ × Record) → IsPlainCell packed bytes cell → length bytes ≡ packed + 16
plain_long packed bytes cell plain = omega (arith, ap length plain.is, length-append cell.0 plain.behind, plain.long, plain.is_record.is.long)

-- pages tell nothing of counts
pub forest_as : (kind : PackingKind) (goal first : ℕ) (sizes others : Sizes) (roots : Roots) (text : List ℕ) (entries : Tree → List Item)
    (store : Store) → others.packed ≡ sizes.packed
    → HoldsForest (slot_of kind goal first sizes roots) text entries store → HoldsForest (slot_of kind goal first others roots) text entries store
forest_as kind goal first sizes others roots text entries store packed h = record {
  text_pages = h.text_pages;
  pages = h.pages;
  forest = subst (λ (n : ℕ). IsForest n (length store.marks) first roots text h.text_pages h.pages entries (reads store)) (sym packed) h.forest;
  text_held = h.text_held;
  held = h.held;
}

module _ (slot : TreeSlot) (text : List ℕ) (table : Stored (List ℕ)) (old : Store) (few : slot.sizes.counts.known ≤ 2 ^ 24)
    (h : HoldsTable slot text table old) where
  -- as many records as positions
  pub as_many : length table.records ≡ length table.positions
  as_many = h.spelled.recorded ∙ sym h.spelled.known

  cells_long : length (zip table.positions table.records) ≡ slot.sizes.counts.known
  cells_long = zip_long table.positions table.records as_many ∙ h.spelled.known

  -- a position is added
  pub position_added : (kind : PackingKind) (goal first : ℕ) (roots : Roots) (x cell : List ℕ) (new : Store)
      → slot.sizes.counts.known < 2 ^ 24 → ((i : ℕ) → slice_get table.positions i ≡ Some x → ⊥)
      → IsCell slot.sizes.packed cell (x, fresh_record)
      → HoldsForest (slot_of kind goal first slot.sizes roots) text
      (with_entry (with_entry h.entries Positions x (number_key slot.sizes.counts.known)) Records (number_key slot.sizes.counts.known) cell) new
      → HoldsTable (slot_of kind goal first (known_as slot.sizes (slot.sizes.counts.known + 1)) roots) text (with_position table x) new
  position_added kind goal first roots x cell new room unknown is forest =
      let sizes_now = known_as slot.sizes (slot.sizes.counts.known + 1) in
      let key = number_key slot.sizes.counts.known in
      let entries = with_entry (with_entry h.entries Positions x key) Records key cell in
      let more : length (table.positions ++ x ∷ []) ≡ slot.sizes.counts.known + 1 = push_long table.positions x ∙ ap (λ (m : ℕ). m + 1) h.spelled.known in
      let small : slot.sizes.counts.known < 2 ^ 32 = omega (arith, room) in
      record {
        entries = entries;
        forest = forest_as kind goal first slot.sizes sizes_now roots text entries new refl forest;
        spelled = record {
          known = more;
          recorded = push_long table.records fresh_record ∙ ap (λ (m : ℕ). m + 1) h.spelled.recorded;
          settled = h.spelled.settled;
          edge_count = h.spelled.edge_count;
          positions =
              position_pushed (h.entries Positions) table.positions x key unknown h.spelled.positions
              (subst (λ (m : ℕ). IsNumber key m) (sym h.spelled.known) (key_number slot.sizes.counts.known small));
          records =
              subst (λ (cells : List (List ℕ × Record)). AreByNumber (IsCell slot.sizes.packed) (put_entry (h.entries Records) key cell) cells)
              (sym (zip_push table.positions table.records x fresh_record as_many))
              (subst (λ (m : ℕ). AreByNumber (IsCell slot.sizes.packed) (put_entry (h.entries Records) (number_key m) cell)
              (zip table.positions table.records ++ (x, fresh_record) ∷ [])) cells_long
              (number_pushed (IsCell slot.sizes.packed) (h.entries Records) (zip table.positions table.records) (x, fresh_record) cell
              (omega (arith, cells_long, small)) h.spelled.records is));
          edges = edges_fit (h.entries Edges) slot.sizes.counts.known (slot.sizes.counts.known + 1) table.has_edge (omega arith) h.spelled.edges;
          order = h.spelled.order;
        };
        counts = λ i. record {
          known = more i;
          expanded = (count_push (λ r. is_expanded r.state) table.records fresh_record refl ∙ ap (λ (c : Counts). c.expanded) h.counts) i;
          settled = (ap (λ (c : Counts). c.settled) h.counts) i;
          processed = (count_push (λ r. is_processed r.state) table.records fresh_record refl ∙ ap (λ (c : Counts). c.processed) h.counts) i;
        };
      }

  -- a record is written
  pub record_set : (kind : PackingKind) (goal first : ℕ) (roots : Roots) (i : ℕ) (x cell : List ℕ) (was kept : Record) (new : Store)
      → i < slot.sizes.counts.known → slice_get table.positions i ≡ Some x → HasRecord table i was
      → IsCell slot.sizes.packed cell (x, kept)
      → HoldsForest (slot_of kind goal first slot.sizes roots) text (with_entry h.entries Records (number_key i) cell) new
      → HoldsTable (slot_of kind goal first (counted_as slot.sizes (counts_with slot.sizes.counts was.state kept.state)) roots) text
      (with_record table i kept) new
  record_set kind goal first roots i x cell was kept new low at had is forest =
      let sizes_now = counted_as slot.sizes (counts_with slot.sizes.counts was.state kept.state) in
      let entries = with_entry h.entries Records (number_key i) cell in
      let long : length table.records ≤ 2 ^ 24 = omega (arith, h.spelled.recorded, few) in
      record {
        entries = entries;
        forest = forest_as kind goal first slot.sizes sizes_now roots text entries new refl forest;
        spelled = record {
          known = h.spelled.known;
          recorded = length-set table.records i kept ∙ h.spelled.recorded;
          settled = h.spelled.settled;
          edge_count = h.spelled.edge_count;
          positions = h.spelled.positions;
          records =
              subst (λ (cells : List (List ℕ × Record)). AreByNumber (IsCell slot.sizes.packed) (put_entry (h.entries Records) (number_key i) cell) cells)
              (sym (zip_set table.positions table.records i x kept at))
              (number_set (IsCell slot.sizes.packed) (h.entries Records) (zip table.positions table.records) i (x, kept) cell
              (omega (arith, cells_long, few)) (omega (arith, cells_long, low)) h.spelled.records is);
          edges = h.spelled.edges;
          order = h.spelled.order;
        };
        counts = λ k. record {
          known = (ap (λ (c : Counts). c.known) h.counts) k;
          expanded = (sym (recounted_is (λ r. is_expanded r.state) table.records i was kept had long)
              ∙ ap (λ (c : Counts). recounted c.expanded (is_expanded was.state) (is_expanded kept.state)) h.counts) k;
          settled = (ap (λ (c : Counts). c.settled) h.counts) k;
          processed = (sym (recounted_is (λ r. is_processed r.state) table.records i was kept had long)
              ∙ ap (λ (c : Counts). recounted c.processed (is_processed was.state) (is_processed kept.state)) h.counts) k;
        };
      }

  -- an edge is added
  pub edge_put : (kind : PackingKind) (goal first : ℕ) (roots : Roots) (i p : ℕ) (new : Store) → i < slot.sizes.counts.known
      → p < slot.sizes.counts.known → find_entry (h.entries Edges) (edge_key i p) ≡ None
      → HoldsForest (slot_of kind goal first slot.sizes roots) text (with_entry h.entries Edges (edge_key i p) []) new
      → HoldsTable (slot_of kind goal first (edges_as slot.sizes (slot.sizes.edges + 1)) roots) text (with_edge table i p) new
  edge_put kind goal first roots i p new to from none forest =
      let entries = with_entry h.entries Edges (edge_key i p) [] in
      record {
        entries = entries;
        forest = forest_as kind goal first slot.sizes (edges_as slot.sizes (slot.sizes.edges + 1)) roots text entries new refl forest;
        spelled = record {
          known = h.spelled.known;
          recorded = h.spelled.recorded;
          settled = h.spelled.settled;
          edge_count = one_more (h.entries Edges) (edge_key i p) [] none ∙ ap (λ (m : ℕ). m + 1) h.spelled.edge_count;
          positions = h.spelled.positions;
          records = h.spelled.records;
          edges = edge_added (h.entries Edges) slot.sizes.counts.known i p table.has_edge few to from h.spelled.edges;
          order = h.spelled.order;
        };
        counts = h.counts;
      }

  -- or was there
  pub edge_stays : (i p : ℕ) (value : List ℕ) (new : Store) → i < slot.sizes.counts.known → p < slot.sizes.counts.known
      → find_entry (h.entries Edges) (edge_key i p) ≡ Some value
      → HoldsForest slot text h.entries new → HoldsTable slot text (with_edge table i p) new
  edge_stays i p value new to from is forest = record {
    entries = h.entries;
    forest = forest;
    spelled = record {
      known = h.spelled.known;
      recorded = h.spelled.recorded;
      settled = h.spelled.settled;
      edge_count = h.spelled.edge_count;
      positions = h.spelled.positions;
      records = h.spelled.records;
      edges = edge_again (h.entries Edges) slot.sizes.counts.known i p table.has_edge few to from h.spelled.edges value is;
      order = h.spelled.order;
    };
    counts = h.counts;
  }

  -- a number is settled
  pub number_settled : (kind : PackingKind) (goal first : ℕ) (roots : Roots) (i : ℕ) (new : Store)
      → slot.sizes.counts.settled < slot.sizes.counts.known → i < 2 ^ 32
      → HoldsForest (slot_of kind goal first slot.sizes roots) text (with_entry h.entries Order (number_key slot.sizes.counts.settled) (number_key i)) new
      → HoldsTable (slot_of kind goal first (settled_as slot.sizes (slot.sizes.counts.settled + 1)) roots) text (with_settled table i) new
  number_settled kind goal first roots i new low small forest =
      let entries = with_entry h.entries Order (number_key slot.sizes.counts.settled) (number_key i) in
      let more : length (table.order ++ i ∷ []) ≡ slot.sizes.counts.settled + 1 = push_long table.order i ∙ ap (λ (m : ℕ). m + 1) h.spelled.settled in
      record {
        entries = entries;
        forest = forest_as kind goal first slot.sizes (settled_as slot.sizes (slot.sizes.counts.settled + 1)) roots text entries new refl forest;
        spelled = record {
          known = h.spelled.known;
          recorded = h.spelled.recorded;
          settled = more;
          edge_count = h.spelled.edge_count;
          positions = h.spelled.positions;
          records = h.spelled.records;
          edges = h.spelled.edges;
          order =
              subst (λ (m : ℕ). AreByNumber IsNumber (put_entry (h.entries Order) (number_key m) (number_key i)) (table.order ++ i ∷ [])) h.spelled.settled
              (number_pushed IsNumber (h.entries Order) table.order i (number_key i)
              (omega (arith, h.spelled.settled, low, few)) h.spelled.order (key_number i small));
        };
        counts = λ k. record {
          known = (ap (λ (c : Counts). c.known) h.counts) k;
          expanded = (ap (λ (c : Counts). c.expanded) h.counts) k;
          settled = more k;
          processed = (ap (λ (c : Counts). c.processed) h.counts) k;
        };
      }
