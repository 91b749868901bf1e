-- What pages hold they hold still where a store in which nothing is going on has got more pages.
use Rattle.std.specs.Prelude.{◌≡◌, ◌<◌, ◌≤◌, ℕ, List, length, Option, None, Some, IsTrue}
use Rattle.std.proofs.Common.{refl, sym, ◌∙◌, subst, arith}
use Rattle.page_store.specs.declared.holds.Holders.{Holders}
use Rattle.page_store.specs.declared.marks.Mark.{Mark}
use Rattle.page_store.specs.declared.marks.Mark.TheVariants.{Committed, Waiting, Fresh, Released, Free, Past}
use Rattle.page_store.specs.Holds.{holders_at}
use Rattle.page_store.specs.Marks.{mark, committed, needs, rests, IsNeeded}
use Rattle.page_store.specs.Spelled.{IsCalm}
use Rattle.page_store.specs.Store.{Store, IsStoreGrown, reads}
use Rattle.game_file.specs.Kept.{Kept}
use Rattle.game_file.specs.Fields.{sizes_in, first_in}
use Rattle.btree.specs.Page.{Item}
use Rattle.tree_table.specs.declared.slot.TreeSlot.{TreeSlot}
use Rattle.tree_table.specs.declared.tree.Roots.{Roots}
use Rattle.tree_table.specs.declared.tree.Tree.{Tree}
use Rattle.tree_table.specs.Forest.{IsForest}
use Rattle.tree_table.specs.KeptTrees.{IsKeptInTrees, IsOneOf, KeepsOn, StandsFor, StandsInTrees}
use Rattle.tree_table.specs.Slot.{roots_in}
use Rattle.tree_table.specs.lemmas.KeptPages.{forest_fits_more, forest_rests, keeps_as, keeps_rests}

-- a page with which nothing is going on is used as before after a commit
pub rests_on : (h : Holders) (m : Mark) → IsTrue (rests m) → committed h m ≡ m
rests_on h Committed calm = refl
rests_on h Waiting calm = cc
rests_on h Fresh calm = cc
rests_on h Released calm = cc
rests_on h Free calm = refl
rests_on h Past calm = refl

-- what is kept on pages below one capacity is kept below each that is greater
pub keeps_on_more : (text_pages : List ℕ) (pages : Tree → List ℕ) (root : List ℕ) (fewer more : ℕ) (kept : Option Kept) (bytes : ℕ → List ℕ)
    → fewer ≤ more → KeepsOn text_pages pages root fewer kept bytes → KeepsOn text_pages pages root more kept bytes
keeps_on_more text_pages pages root fewer more None bytes le it = it
keeps_on_more text_pages pages root fewer more (Some kept) bytes le it = record {
  slot = it.slot;
  entries = it.entries;
  forest = forest_fits_more (sizes_in root).packed fewer more (first_in root) (roots_in root) kept.text text_pages pages it.entries bytes le it.forest;
  text = it.text;
  spelled = it.spelled;
  table = it.table;
  counts = it.counts;
}

module _ (root : List ℕ) (pages : ℕ) (old new : Store) (calm : IsCalm old) (more : length old.marks < pages) (done : IsStoreGrown root pages old new) where
  -- each page that was there is used as it was
  pub grown_mark : (p : ℕ) → p < length old.marks → mark new.marks p ≡ mark old.marks p
  grown_mark p low = done.marks.each p low ∙ rests_on (holders_at old.holds.of p) (mark old.marks p) (calm.each p)

  pub grown_needed : (p : ℕ) → IsNeeded old.marks p → IsNeeded new.marks p
  grown_needed p needed = (
    needed.0,
    omega (arith, needed.1, done.marks.long, more),
    subst (λ (m : Mark). IsTrue (needs m)) (sym (grown_mark p needed.1)) needed.2,
  )

  pub grown_forest : (packed first : ℕ) (roots : Roots) (text text_pages : List ℕ) (trees : Tree → List ℕ) (entries : Tree → List Item)
      → ((p : ℕ) → IsOneOf text_pages trees p → (1 ≤ p) × (p < length old.marks)) → IsTrue old.disk.honest
      → IsForest packed (length old.marks) first roots text text_pages trees entries (reads old)
      → IsForest packed (length new.marks) first roots text text_pages trees entries (reads new)
  grown_forest packed first roots text text_pages trees entries there honest it =
      forest_fits_more packed (length old.marks) (length new.marks) first roots text text_pages trees entries (reads new)
      (omega (arith, done.marks.long, more))
      (forest_rests packed (length old.marks) first roots text text_pages trees entries (reads old) it (reads new)
      (λ p here. let (some, low) = there p here in done.reads honest p some low))

  -- what stands
  grown_stands : (slot : TreeSlot) (text : List ℕ) → IsTrue old.disk.honest → StandsInTrees slot text old → StandsInTrees slot text new
  grown_stands slot text honest it = record {
    table = it.table;
    text_pages = it.text_pages;
    pages = it.pages;
    entries = it.entries;
    forest = grown_forest slot.sizes.packed slot.first slot.roots text it.text_pages it.pages it.entries
        (λ p here. let needed = it.needed p here in (needed.0, needed.1)) honest it.forest;
    spelled = it.spelled;
    counts = it.counts;
    needed = λ p here. grown_needed p (it.needed p here);
  }

  pub grown_stands_for : (game : Option TreeSlot) (text : List ℕ) → IsTrue old.disk.honest → StandsFor game text old → StandsFor game text new
  grown_stands_for None text honest it = it
  grown_stands_for (Some slot) text honest it = grown_stands slot text honest it

  -- what is kept, where the new root names it too
  pub grown_keeps : (kept : Option Kept) → IsTrue old.disk.honest → (it : IsKeptInTrees old kept)
      → KeepsOn it.text_pages it.pages root (length old.marks) kept (reads old) → IsKeptInTrees new kept
  grown_keeps kept honest it under = record {
    text_pages = it.text_pages;
    pages = it.pages;
    keeps =
        keeps_as it.text_pages it.pages root new.root pages (length new.marks) kept (reads new) (sym done.is) (sym done.marks.long)
        (keeps_on_more it.text_pages it.pages root (length old.marks) pages kept (reads new) (omega (arith, more))
        (keeps_rests it.text_pages it.pages root (length old.marks) kept (reads old) (reads new)
        (λ p here. let needed = it.needed p here in done.reads honest p needed.0 needed.1) under));
    needed = λ p here. grown_needed p (it.needed p here);
  }
