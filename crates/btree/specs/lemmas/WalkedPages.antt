-- Pages are walked, with the entries that are on them.
use Rattle.std.specs.Prelude.{◌≡◌, ℕ, ◌≤◌, ◌<◌, true, List, length, Contains, Some, IsTrue}
use Rattle.sector_disk.specs.Disk.{Grew}
use Rattle.page_store.specs.declared.fault.PageFault.TheVariants.{Disk, Damaged, Closed}
use Rattle.page_store.specs.Store.{Store as StoreStated, reads}
use Rattle.btree.specs.declared.page.widths.Widths.{Widths}
use Rattle.btree.specs.Page.{Item}
use Rattle.btree.specs.Entries.{first_key}
use Rattle.btree.specs.Tree.{entries_below, pages_below, IsTree}
use Rattle.page_store.specs.Pages.{IsOnce, AreWaiting}
use Rattle.btree.specs.declared.walk.fault.WalkFault.{WalkFault}
use Rattle.btree.specs.declared.walk.fault.WalkFault.TheVariants.{Store, Refused}
use Rattle.btree.specs.Walks.{MarksPages, IsRefusedAmong}
use Rattle.btree.specs.lemmas.Visits.{AscendFrom, HasVisited}

-- these pages can be walked: they wait, each once, and their entries ascend from the last key
pub record AreReady (pages : List ℕ) (es : List Item) (store : StoreStated) (last : List ℕ) : Type 0 where
  pub waiting : AreWaiting pages store
  pub once : IsOnce pages
  pub ascending : AscendFrom last es

-- these pages are walked, and the visitor was told of these entries
pub record ArePassed (pages : List ℕ) (es : List Item) (old new : StoreStated) (last now : List ℕ)
    (told more : List Item → Type 0) : Type 0 where
  pub marked : MarksPages pages old new
  pub once : IsOnce pages
  pub there : (p : ℕ) → Contains pages p → (1 ≤ p) × (p < length old.marks)
  pub entries : HasVisited es last now told more

-- the tree of this depth below this page is walked; `first` is its first key
pub record IsWalked (w : Widths) (bytes : ℕ → List ℕ) (d page : ℕ) (first : List ℕ) (old new : StoreStated) (last now : List ℕ)
    (told more : List Item → Type 0) : Type 0 where
  pub tree : IsTree w bytes d page
  pub first_is : first_key (entries_below w bytes d page) ≡ Some first
  pub passed : ArePassed (pages_below w bytes d page) (entries_below w bytes d page) old new last now told more

-- a tree of this depth below this page is not walked: the disk failed; there is none that can be, as far as the disk is
-- honest; the store is closed; or the visitor refused one of its entries
abbrev pub WalkBelowCause : Widths → ℕ → ℕ → List ℕ → (List Item → Item → Type 0) → (List Item → Type 0) → StoreStated → StoreStated
    → WalkFault → Type 0
WalkBelowCause w d page last refuses told old new (Store Disk) = Grew old.failures new.failures
WalkBelowCause w d page last refuses told old new (Store Damaged) = IsTrue old.disk.honest → IsTree w (reads old) d page
    → AreReady (pages_below w (reads old) d page) (entries_below w (reads old) d page) old last → ⊥
WalkBelowCause w d page last refuses told old new (Store Closed) = old.closed ≡ true
WalkBelowCause w d page last refuses told old new (Store _) = ⊥
WalkBelowCause w d page last refuses told old new Refused =
    IsTrue old.disk.honest → (before : List Item) → told before → IsRefusedAmong refuses before (entries_below w (reads old) d page)
