-- The table that an image of the disk holds, as far as that can be told without the game's rules.
use Rattle.std.specs.Prelude.{◌≡◌, ℕ, ◌≤◌, List, Option, None, Some}
use Rattle.sector_disk.specs.Disk.{Image}
use Rattle.root_pair.specs.Root.{HoldsRoot}
use Rattle.page_store.specs.Page.{page}
use Rattle.page_chain.specs.Chain.{IsChain}
use Rattle.retrograde.specs.Stored.{IsTable}
use Rattle.retrograde.specs.Changes.{counts_of}
use Rattle.game_file.specs.Numbers.{AreWithinLimits}
use Rattle.earlier_layouts.specs.Spelled.{SpellsTable}
use Rattle.game_file.specs.Kept.{Kept, Older}
pub use Rattle.game_file.specs.Fields.{capacity_of}
use Rattle.earlier_layouts.specs.Slot.{layout_in, packing_in, number_of_packing, first_in, sizes_in, IsEmptySlot}
use Rattle.page_store.specs.declared.limits.TheConstants.{MIN_PAGES}

-- the slot names the packing, there is no goal, since this layout has no place for one, and the chain of pages that the slot names spells
-- the text and a table whose parts fit together, which the slot counts right
pub record KeepsGame (root : List ℕ) (capacity : ℕ) (kept : Kept) (bytes : ℕ → List ℕ) : Type 0 where
  pub layout : layout_in root ≡ 1
  pub packing : packing_in root ≡ number_of_packing kept.packing
  pub no_goal : kept.goal ≡ None
  pub limits : AreWithinLimits (sizes_in root)
  pub pages : List ℕ
  pub content : List ℕ
  pub chain : IsChain capacity (first_in root) pages content bytes
  pub spells : SpellsTable (sizes_in root) content kept.text kept.table
  pub table : IsTable kept.table
  pub counts : counts_of kept.table ≡ (sizes_in root).counts

-- the slot and the pages spell this table, or an empty one
abbrev pub KeepsTable : List ℕ → ℕ → Option Kept → (ℕ → List ℕ) → Type 0
KeepsTable root capacity None bytes = IsEmptySlot root
KeepsTable root capacity (Some kept) bytes = KeepsGame root capacity kept bytes

-- the image is a table in this many pages, 16 or more, for which it has room: it begins as each does, its gate picks a slot, and what that
-- slot and the pages named from it spell is this. A slot of this layout does not say how many pages there are
pub record Stores (pages : ℕ) (image : Image) (kept : Option Kept) : Type 0 where
  pub root : List ℕ
  pub holds : HoldsRoot root image
  pub least : MIN_PAGES ≤ pages
  pub room : pages ≤ capacity_of image
  pub keeps : KeepsTable root pages kept (page image)

-- no image holds a table of an earlier layout: this one is the first
abbrev pub IsOlder : Older
IsOlder image = ⊥
