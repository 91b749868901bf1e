-- What pages hold they hold wherever their bytes are the same, below each greater capacity, and after a commit.
use Rattle.std.specs.Prelude.{◌≡◌, ◌⊎◌, ℕ, ◌≤◌, true, List, length, Option, None, Some, IsTrue}
use Rattle.std.proofs.Common.{inl, inr, refl, sym, ap, subst, arith}
use Rattle.sector_disk.specs.Disk.{Image}
use Rattle.sector_disk.specs.lemmas.Moments.{leaves_more}
use Rattle.page_store.specs.declared.marks.Mark.{Mark}
use Rattle.page_store.specs.declared.marks.Mark.TheVariants.{Committed, Waiting, Fresh, Released, Free, Past}
use Rattle.page_store.specs.Marks.{mark, keeps, needs, rests, IsKept, IsNeeded}
use Rattle.page_store.specs.Spelled.{Stands, Spells, IsPrepared, IsCarried, IsCalm}
use Rattle.page_store.specs.Store.{Store, reads, StoreWorks, Commits, IsSafe, IsCommitted, IsUnchanged}
use Rattle.page_store.specs.lemmas.Carried.{commit_carries, stop_leaves}
use Rattle.page_store.specs.lemmas.Works.{still_needed}
use Rattle.sector_disk.specs.lemmas.Moments.{still_honest}
use Rattle.btree.specs.lemmas.Unchanged.{unchanged_reads}
use Rattle.page_chain.specs.lemmas.EveryChain.{a_chain_rests_on_its_pages, a_chain_fits_more}
use Rattle.position_pack.specs.declared.kind.PackingKind.{PackingKind}
use Rattle.retrograde.specs.Stored.{Stored, IsTable}
use Rattle.game_file.specs.Fields.{layout_in, first_in, sizes_in, SaysPages}
use Rattle.game_file.specs.Kept.{Kept, kept_as}
use Rattle.game_file.specs.Stops.{LeavesEither, LeavesNow, LeavesTable}
use Rattle.btree.specs.Page.{Item}
use Rattle.btree.specs.declared.page.widths.Widths.{Widths}
use Rattle.btree.specs.Tree.{IsMap}
use Rattle.btree.specs.lemmas.Laws.{a_map_rests_on_its_pages, a_map_is_prepared}
use Rattle.tree_table.specs.declared.slot.TreeSlot.{TreeSlot}
use Rattle.tree_table.specs.declared.tree.Tree.{Tree}
use Rattle.tree_table.specs.declared.tree.Roots.{Roots}
use Rattle.retrograde.specs.Changes.{counts_of}
use Rattle.tree_table.specs.Entries.{AreEntriesOf}
use Rattle.tree_table.specs.Forest.{IsForest}
use Rattle.tree_table.specs.Held.{KeepsOnPages, KeepsTrees, StoresTrees}
use Rattle.tree_table.specs.KeptTrees.{IsOneOf, KeepsOn, IsKeptInTrees}
use Rattle.tree_table.specs.Slot.{slot_in, roots_in, IsGameTreeSlot}
use Rattle.tree_table.specs.Trees.{root_of}
use Rattle.tree_table.specs.WorkTable.{HoldsTable}

-- other bytes that agree on the named pages
pub forest_rests : (packed capacity first : ℕ) (roots : Roots) (text text_pages : List ℕ) (pages : Tree → List ℕ) (entries : Tree
    → List Item)
    (bytes : ℕ → List ℕ) → IsForest packed capacity first roots text text_pages pages entries bytes → (other : ℕ → List ℕ)
    → ((p : ℕ) → IsOneOf text_pages pages p → other p ≡ bytes p)
    → IsForest packed capacity first roots text text_pages pages entries other
forest_rests packed capacity first roots text text_pages pages entries bytes it other same = record {
  chain = (a_chain_rests_on_its_pages capacity first text_pages text bytes it.chain).anywhere other (λ p here. same p (inl here));
  trees = λ t.
      let tree = it.trees t in
      record {
        widths = tree.widths;
        keys = tree.keys;
        values = tree.values;
        map = (a_map_rests_on_its_pages tree.widths capacity (root_of roots t) (pages t) (entries t) bytes tree.map).anywhere other
            (λ p here. same p (inr (t, here)));
      };
  text_apart = it.text_apart;
  apart = it.apart;
}

-- a map below one capacity is below each that is greater
map_fits_more : (w : Widths) (fewer more root : ℕ) (pages : List ℕ) (es : List Item) (bytes : ℕ → List ℕ) → fewer ≤ more
    → IsMap w fewer root pages es bytes → IsMap w more root pages es bytes
map_fits_more w fewer more root pages es bytes le (inl empty) = inl empty
map_fits_more w fewer more root pages es bytes le (inr map) = inr (record {
  depth = map.depth;
  shallow = map.shallow;
  tree = map.tree;
  pages_are = map.pages_are;
  entries_are = map.entries_are;
  ascending = map.ascending;
  within = λ p here. let (some, low) = map.within p here in (some, omega (arith, low, le));
  once = map.once;
})

pub forest_fits_more : (packed fewer more first : ℕ) (roots : Roots) (text text_pages : List ℕ) (pages : Tree → List ℕ)
    (entries : Tree → List Item) (bytes : ℕ → List ℕ) → fewer ≤ more
    → IsForest packed fewer first roots text text_pages pages entries bytes
    → IsForest packed more first roots text text_pages pages entries bytes
forest_fits_more packed fewer more first roots text text_pages pages entries bytes le it = record {
  chain = a_chain_fits_more fewer more first text_pages text bytes le it.chain;
  trees = λ t.
      let tree = it.trees t in
      record {
        widths = tree.widths;
        keys = tree.keys;
        values = tree.values;
        map = map_fits_more tree.widths fewer more (root_of roots t) (pages t) (entries t) bytes le tree.map;
      };
  text_apart = it.text_apart;
  apart = it.apart;
}

-- what is kept in fewer pages is kept in more
pub keeps_in_more_trees : (root : List ℕ) (fewer more : ℕ) (kept : Option Kept) (bytes : ℕ → List ℕ) → fewer ≤ more
    → KeepsTrees root fewer kept bytes → KeepsTrees root more kept bytes
keeps_in_more_trees root fewer more None bytes le it = it
keeps_in_more_trees root fewer more (Some kept) bytes le it =
    let keeps = it.keeps in
    record {
      text_pages = it.text_pages;
      pages = it.pages;
      keeps = record {
        slot = keeps.slot;
        entries = keeps.entries;
        forest = forest_fits_more (sizes_in root).packed fewer more _ _ kept.text it.text_pages it.pages keeps.entries bytes le
            keeps.forest;
        text = keeps.text;
        spelled = keeps.spelled;
        table = keeps.table;
        counts = keeps.counts;
      };
    }

-- an image with this root whose pages spell this stores it
pub spells_stores_trees : (root : List ℕ) (layout c : ℕ) (kept : Option Kept) (image : Image) → layout_in root ≡ layout → SaysPages root c
    → 16 ≤ c → c ≤ 1048576 → Spells root c (KeepsTrees root c kept) image → StoresTrees layout c image kept
spells_stores_trees root layout c kept image same says enough few it = record {
  root = root;
  holds = it.holds;
  same_layout = same;
  says = says;
  enough = enough;
  few = few;
  room = it.room;
  keeps = it.spelt;
}

kept_mark : (m : Mark) → (m ≡ Committed) ⊎ (m ≡ Fresh) → keeps m ≡ true
kept_mark m (inl is) = ap keeps is
kept_mark m (inr is) = ap keeps is

-- the same pages with other bytes elsewhere
pub keeps_rests : (text_pages : List ℕ) (pages : Tree → List ℕ) (root : List ℕ) (capacity : ℕ) (kept : Option Kept) (bytes other : ℕ
    → List ℕ)
    → ((p : ℕ) → IsOneOf text_pages pages p → other p ≡ bytes p) → KeepsOn text_pages pages root capacity kept bytes
    → KeepsOn text_pages pages root capacity kept other
keeps_rests text_pages pages root capacity None bytes other same it = it
keeps_rests text_pages pages root capacity (Some kept) bytes other same it = record {
  slot = it.slot;
  entries = it.entries;
  forest = forest_rests (sizes_in root).packed capacity (first_in root) (roots_in root) kept.text text_pages pages it.entries bytes
      it.forest
      other same;
  text = it.text;
  spelled = it.spelled;
  table = it.table;
  counts = it.counts;
}

keeps_some : (text_pages : List ℕ) (pages : Tree → List ℕ) (root : List ℕ) (capacity : ℕ) (kept : Option Kept) (bytes : ℕ → List ℕ)
    → KeepsOn text_pages pages root capacity kept bytes → KeepsTrees root capacity kept bytes
keeps_some text_pages pages root capacity None bytes it = it
keeps_some text_pages pages root capacity (Some kept) bytes it = record { text_pages = text_pages; pages = pages; keeps = it }

pub keeps_as : (text_pages : List ℕ) (pages : Tree → List ℕ) (root root_now : List ℕ) (capacity capacity_now : ℕ) (kept : Option Kept)
    (bytes : ℕ → List ℕ) → root ≡ root_now → capacity ≡ capacity_now → KeepsOn text_pages pages root capacity kept bytes
    → KeepsOn text_pages pages root_now capacity_now kept bytes
keeps_as text_pages pages root root_now capacity capacity_now kept bytes roots capacities it =
    subst (λ (r : List ℕ). KeepsOn text_pages pages r capacity_now kept bytes) roots
    (subst (λ (n : ℕ). KeepsOn text_pages pages root n kept bytes) capacities it)

-- what is kept stands
pub kept_stands : (store : Store) (kept : Option Kept) (it : IsKeptInTrees store kept)
    → Stands (IsOneOf it.text_pages it.pages) (KeepsTrees store.root (length store.marks) kept) store
kept_stands store kept it = record {
  spelled = record {
    anywhere = λ other same. keeps_some it.text_pages it.pages store.root (length store.marks) kept other
        (keeps_rests it.text_pages it.pages store.root (length store.marks) kept (reads store) other same it.keeps);
  };
  needed = it.needed;
}

-- a call that commits nothing keeps what is kept
pub works_keeps : (old new : Store) (kept : Option Kept) → IsTrue old.disk.honest → StoreWorks old new → IsKeptInTrees old kept
    → IsKeptInTrees new kept
works_keeps old new kept honest works it = record {
  text_pages = it.text_pages;
  pages = it.pages;
  keeps = keeps_as it.text_pages it.pages old.root new.root (length old.marks) (length new.marks) kept (reads new) (sym works.root)
      (sym works.same_pages)
      (keeps_rests it.text_pages it.pages old.root (length old.marks) kept (reads old) (reads new)
      (λ p here. works.reads honest p (it.needed p here)) it.keeps);
  needed = λ p here. still_needed works p (it.needed p here);
}

-- and a stop leaves it
pub kept_stays : (store : Store) (kept : Option Kept) → SaysPages store.root (length store.marks) → 16 ≤ length store.marks
    → length store.marks ≤ 1048576 → IsKeptInTrees store kept → IsSafe store
    → LeavesNow (StoresTrees (layout_in store.root) (length store.marks)) store.disk kept
kept_stays store kept says enough few it safe image left =
    spells_stores_trees store.root (layout_in store.root) (length store.marks) kept image refl says enough few
    (stop_leaves store (kept_stands store kept it) safe image left)

calm_held : (m : Mark) → IsTrue (rests m) → needs m ≡ true → m ≡ Committed
calm_held Committed calm needed = refl
calm_held Waiting calm needed = cc
calm_held Fresh calm needed = cc
calm_held Released calm needed = cc
calm_held Free calm needed = cc
calm_held Past calm needed = cc

-- between commands what is kept is held by pages in use
pub kept_is_held : (store : Store) (kept : Kept) → IsCalm store → IsKeptInTrees store (Some kept)
    → HoldsTable (slot_in store.root) kept.text kept.table store
kept_is_held store kept calm it = record {
  entries = it.keeps.entries;
  forest = record {
    text_pages = it.text_pages;
    pages = it.pages;
    forest = it.keeps.forest;
    text_held = λ p here. inl (calm_held (mark store.marks p) (calm.each p) (it.needed p (inl here)).2);
    held = λ t p here. inl (calm_held (mark store.marks p) (calm.each p) (it.needed p (inr (t, here))).2);
  };
  spelled = it.keeps.spelled;
  counts = it.keeps.counts;
}

-- a slot of these bytes, where the pages hold a table, is prepared for the next commit
module _ (root : List ℕ) (slot : TreeSlot) (text : List ℕ) (kind : PackingKind) (goal : Option ℕ) (table : Stored (List ℕ))
    (store : Store) (is_game : IsGameTreeSlot root kind goal) (is : slot_in root ≡ slot) (long : length text ≡ slot.sizes.text) (whole : IsTable table)
    (h : HoldsTable slot text table store) where
  held_keeps : KeepsOnPages root (length store.marks) (kept_as text kind goal table) h.forest.text_pages h.forest.pages (reads store)
  held_keeps =
      let back : slot ≡ slot_in root = sym is in
      record {
        slot = is_game;
        entries = h.entries;
        forest = subst (λ (s : TreeSlot). IsForest s.sizes.packed (length store.marks) s.first s.roots text h.forest.text_pages
            h.forest.pages
            h.entries (reads store)) back h.forest.forest;
        text = subst (λ (s : TreeSlot). length text ≡ s.sizes.text) back long;
        spelled = subst (λ (s : TreeSlot). AreEntriesOf s.sizes h.entries table) back h.spelled;
        table = whole;
        counts = subst (λ (s : TreeSlot). counts_of table ≡ s.sizes.counts) back h.counts;
      }

  named_kept : (p : ℕ) → IsOneOf h.forest.text_pages h.forest.pages p → IsKept store.marks p
  named_kept p (inl here) =
      let (some, low) = h.forest.forest.chain.within p here in
      (some, low, kept_mark (mark store.marks p) (h.forest.text_held p here))
  named_kept p (inr (t, here)) =
      let tree = h.forest.forest.trees t in
      (a_map_is_prepared tree.widths (length store.marks) (root_of slot.roots t) (h.forest.pages t) (h.entries t) store (omega arith)
      tree.map
      (h.forest.held t)).kept p here

  pub table_is_prepared : (capacity : ℕ) → capacity ≡ length store.marks
      → IsPrepared (IsOneOf h.forest.text_pages h.forest.pages) (KeepsTrees root capacity (Some (kept_as text kind goal table))) store
  table_is_prepared capacity same = record {
    spelled = record {
      anywhere = λ other agree. subst (λ (n : ℕ). KeepsTrees root n (Some (kept_as text kind goal table)) other) (sym same) (record {
        text_pages = h.forest.text_pages;
        pages = h.forest.pages;
        keeps = keeps_rests h.forest.text_pages h.forest.pages root (length store.marks) (Some (kept_as text kind goal table)) (reads store)
            other agree held_keeps;
      });
    };
    kept = named_kept;
  }

  -- work and then a commit of it: a stop leaves what was kept, or this
  module _ (begun new : Store) (was : Option Kept) (honest : IsTrue begun.disk.honest) (safe : IsSafe begun) (kept : IsKeptInTrees begun
      was)
      (same : layout_in root ≡ layout_in begun.root) (said : SaysPages begun.root (length begun.marks))
      (says : SaysPages root (length begun.marks)) (works : StoreWorks begun store) (commits : Commits root store new) (enough : 16 ≤ length begun.marks)
      (few : length begun.marks ≤ 1048576) where
    carried : IsCarried root (IsOneOf kept.text_pages kept.pages) (KeepsTrees begun.root (length begun.marks) was)
        (IsOneOf h.forest.text_pages h.forest.pages) (KeepsTrees root (length begun.marks) (Some (kept_as text kind goal table))) begun store new
    carried =
        commit_carries root begun store new honest safe (kept_stands begun was kept) works
        (table_is_prepared (length begun.marks) (sym works.same_pages)) commits

    pub stop_stores : LeavesEither (StoresTrees (layout_in begun.root) (length begun.marks)) begun.disk new.disk was (Some (kept_as text kind goal table))
    stop_stores =
        leaves_more (λ image left. elim left [
          | inl old ↦ inl (spells_stores_trees begun.root (layout_in begun.root) (length begun.marks) was image refl said enough few old)
          | inr now ↦ inr (spells_stores_trees root (layout_in begun.root) (length begun.marks) (Some (kept_as text kind goal table)) image same
              says enough few now)
        ]) carried.stop

    pub committed_keeps : IsCommitted root store new → IsKeptInTrees new (Some (kept_as text kind goal table))
    committed_keeps committed = record {
      text_pages = h.forest.text_pages;
      pages = h.forest.pages;
      keeps = keeps_as h.forest.text_pages h.forest.pages root new.root (length store.marks) (length new.marks)
          (Some (kept_as text kind goal table)) (reads new) (sym committed.is) (sym committed.marks.same_length)
          (keeps_rests h.forest.text_pages h.forest.pages root (length store.marks) (Some (kept_as text kind goal table)) (reads store)
          (reads new)
          (λ p here. committed.reads (still_honest works.goes_on honest) p (named_kept p here).0) held_keeps);
      needed = λ p here. (carried.done committed).needed p here;
    }

    -- where the commit left the store as it was, what was kept still is
    pub unchanged_keeps : IsUnchanged store new → IsKeptInTrees new was
    unchanged_keeps unchanged =
        let mid = works_keeps begun store was honest works kept in
        let now = still_honest works.goes_on honest in
        record {
          text_pages = mid.text_pages;
          pages = mid.pages;
          keeps = keeps_as mid.text_pages mid.pages store.root new.root (length store.marks) (length new.marks) was (reads new)
              (sym unchanged.root) (sym (ap length unchanged.marks))
              (keeps_rests mid.text_pages mid.pages store.root (length store.marks) was (reads store) (reads new)
              (λ p here. ap (λ (bytes : ℕ → List ℕ). bytes p) (unchanged_reads store new now unchanged)) mid.keeps);
          needed = λ p here. subst (λ (ms : List Mark). IsNeeded ms p) (sym unchanged.marks) (mid.needed p here);
        }

    pub unchanged_stop : IsUnchanged store new → LeavesTable (StoresTrees (layout_in begun.root) (length begun.marks)) begun.disk new.disk was
    unchanged_stop unchanged =
        leaves_more (λ image left. spells_stores_trees begun.root (layout_in begun.root) (length begun.marks) was image refl said enough few left)
        (carried.left_stop unchanged)
