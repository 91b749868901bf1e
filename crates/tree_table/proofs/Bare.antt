-- A slot that names no page names the pages of no text and of an empty table.
use Rattle.std.proofs.Common.{inl, ℕ, ◌+◌, ◌≤◌, List, [], length, refl, arith}
use Rattle.page_store.specs.Store.{Store, reads}
use Rattle.btree.specs.lemmas.Laws.{none_contained}
use Rattle.tree_table.specs.declared.tree.Tree.{Tree}
use Rattle.tree_table.specs.declared.tree.Tree.TheVariants.{Positions, Records, Edges, Order}
use Rattle.tree_table.specs.Forest.{IsTreeOf}
use Rattle.tree_table.specs.Trees.{root_of}
use Rattle.position_pack.specs.declared.kind.PackingKind.{PackingKind}
use Rattle.position_pack.specs.declared.kind.PackingKind.TheVariants.{Bytes}
use Rattle.page_chain.specs.Chain.{IsChain}
use Rattle.btree.specs.Changes.{AreHeld}
use Rattle.tree_table.specs.Entries.{AreEntriesOf}
use Rattle.tree_table.specs.WorkTable.{bare_slot, text_slot, HoldsTable}
use Rattle.table.specs.Records.{nothing}

bare_tree : (packed : ℕ) (t : Tree) (capacity : ℕ) (bytes : ℕ → List ℕ) → 1 ≤ packed → packed ≤ 240 → IsTreeOf packed t capacity 0 [] [] bytes
bare_tree packed Positions capacity bytes some few = record {
  widths = record { key = packed; value = 4; some = some; key_fits = omega (arith, few); value_fits = omega arith };
  keys = refl;
  values = refl;
  map = inl (record { at_none = refl; no_page = refl; no_entry = refl });
}
bare_tree packed Records capacity bytes some few = record {
  widths = record { key = 4; value = packed + 16; some = omega arith; key_fits = omega arith; value_fits = omega (arith, few) };
  keys = refl;
  values = refl;
  map = inl (record { at_none = refl; no_page = refl; no_entry = refl });
}
bare_tree packed Edges capacity bytes some few = record {
  widths = record { key = 8; value = 0; some = omega arith; key_fits = omega arith; value_fits = omega arith };
  keys = refl;
  values = refl;
  map = inl (record { at_none = refl; no_page = refl; no_entry = refl });
}
bare_tree packed Order capacity bytes some few = record {
  widths = record { key = 4; value = 4; some = omega arith; key_fits = omega arith; value_fits = omega arith };
  keys = refl;
  values = refl;
  map = inl (record { at_none = refl; no_page = refl; no_entry = refl });
}

bare_root : (packed : ℕ) (t : Tree) (capacity : ℕ) (bytes : ℕ → List ℕ) → 1 ≤ packed → packed ≤ 240
    → IsTreeOf packed t capacity (root_of (bare_slot packed).roots t) [] [] bytes
bare_root packed Positions capacity bytes some few = bare_tree packed Positions capacity bytes some few
bare_root packed Records capacity bytes some few = bare_tree packed Records capacity bytes some few
bare_root packed Edges capacity bytes some few = bare_tree packed Edges capacity bytes some few
bare_root packed Order capacity bytes some few = bare_tree packed Order capacity bytes some few

-- the entries of no table
bare_spelled : (packed long : ℕ) → AreEntriesOf (text_slot Bytes 0 0 long packed).sizes (λ t. []) nothing
bare_spelled packed long = record {
  known = refl;
  recorded = refl;
  settled = refl;
  edge_count = refl;
  positions = record { each = λ i x got. absurd (cc); only = λ x value found. absurd (cc) };
  records = record { each = λ i x got. absurd (cc); only = λ key value found. absurd (cc) };
  edges = record { each = λ i p has. absurd (cc); only = λ key value found. absurd (cc); between = λ i p has. absurd (cc) };
  order = record { each = λ i x got. absurd (cc); only = λ key value found. absurd (cc) };
}

-- a text on pages in use, and no position
pub text_holds : (kind : PackingKind) (goal first long packed : ℕ) (text text_pages : List ℕ) (store : Store) → 1 ≤ packed → packed ≤ 240
    → IsChain (length store.marks) first text_pages text (reads store) → AreHeld store.marks text_pages
    → HoldsTable (text_slot kind goal first long packed) text nothing store
text_holds kind goal first long packed text text_pages store some few chain held = record {
  entries = λ t. [];
  forest = record {
    text_pages = text_pages;
    pages = λ t. [];
    forest = record {
      chain = chain;
      trees = λ t. bare_root packed t (length store.marks) (reads store) some few;
      text_apart = λ t p here there. none_contained p there;
      apart = λ t u differ p here there. none_contained p here;
    };
    text_held = held;
    held = λ t p here. absurd (none_contained p here);
  };
  spelled = bare_spelled packed long;
  counts = refl;
}

pub bare_holds : (packed : ℕ) (store : Store) → 1 ≤ packed → packed ≤ 240 → HoldsTable (bare_slot packed) [] nothing store
bare_holds packed store some few =
    text_holds Bytes 0 0 0 packed [] [] store some few (record {
      leads = refl;
      within = λ p here. absurd (none_contained p here);
      once = λ i j p one two. absurd (cc);
      enough = omega arith;
      no_more = omega arith;
      is = refl;
    }) (λ p here. absurd (none_contained p here))
