-- The table on trees that an image of the disk holds, as far as that can be told without the game's rules.
use Rattle.std.specs.Prelude.{◌≡◌, ℕ, ◌*◌, ◌≤◌, List, length, Option, None, Some}
use Rattle.sector_disk.specs.Disk.{Image}
use Rattle.root_pair.specs.Root.{HoldsRoot}
use Rattle.page_store.specs.Page.{page}
use Rattle.retrograde.specs.Stored.{IsTable}
use Rattle.retrograde.specs.Changes.{counts_of}
use Rattle.game_file.specs.Fields.{layout_in, first_in, sizes_in, SaysPages}
use Rattle.game_file.specs.Kept.{Kept}
use Rattle.btree.specs.Page.{Item}
use Rattle.tree_table.specs.declared.tree.Tree.{Tree}
use Rattle.tree_table.specs.Entries.{AreEntriesOf}
use Rattle.tree_table.specs.Forest.{IsForest}
use Rattle.tree_table.specs.Slot.{roots_in, IsEmptyTreeSlot, IsGameTreeSlot}
use Rattle.page_store.specs.declared.limits.TheConstants.{MIN_PAGES, MAX_PAGES}

-- the slot is that of a table with a game of this packing and goal, and these pages, which it names, each of them below the capacity and named
-- once, hold this text as a chain and four trees whose entries are those of this table. The table's parts fit together, and the slot
-- counts them right
pub record KeepsOnPages (root : List ℕ) (capacity : ℕ) (kept : Kept) (text_pages : List ℕ) (pages : Tree → List ℕ) (bytes : ℕ → List ℕ)
    : Type 0 where
  pub slot : IsGameTreeSlot root kept.packing kept.goal
  pub entries : Tree → List Item
  pub forest : IsForest (sizes_in root).packed capacity (first_in root) (roots_in root) kept.text text_pages pages entries bytes
  pub text : length kept.text ≡ (sizes_in root).text
  pub spelled : AreEntriesOf (sizes_in root) entries kept.table
  pub table : IsTable kept.table
  pub counts : counts_of kept.table ≡ (sizes_in root).counts

-- a root keeps a game's table on some pages
pub record KeepsGameTrees (root : List ℕ) (capacity : ℕ) (kept : Kept) (bytes : ℕ → List ℕ) : Type 0 where
  pub text_pages : List ℕ
  pub pages : Tree → List ℕ
  pub keeps : KeepsOnPages root capacity kept text_pages pages bytes

-- the slot and the pages spell this table, or an empty one
abbrev pub KeepsTrees : List ℕ → ℕ → Option Kept → (ℕ → List ℕ) → Type 0
KeepsTrees root capacity None bytes = IsEmptyTreeSlot root
KeepsTrees root capacity (Some kept) bytes = KeepsGameTrees root capacity kept bytes

-- the image is a table of this layout in this many pages, 16 to 1,048,576: it begins as each table does and has room for them; its gate
-- picks a slot of this layout, which says the same number if the layout says it at all; and what that slot and the pages named from
-- it spell is this
pub record StoresTrees (layout pages : ℕ) (image : Image) (kept : Option Kept) : Type 0 where
  pub root : List ℕ
  pub holds : HoldsRoot root image
  pub same_layout : layout_in root ≡ layout
  pub says : SaysPages root pages
  pub enough : MIN_PAGES ≤ pages
  pub few : pages ≤ MAX_PAGES
  pub room : 8 * pages ≤ length image
  pub keeps : KeepsTrees root pages kept (page image)
