-- What reading and changing a map leaves of a store.
use Rattle.std.specs.Prelude.{◌≡◌, ◌⊎◌, ℕ, true, List, length, Contains, IsTrue}
use Rattle.sector_disk.specs.Disk.{Grew}
use Rattle.page_store.specs.declared.fault.PageFault.{PageFault}
use Rattle.page_store.specs.declared.fault.PageFault.TheVariants.{Disk, Damaged, TableFull, Closed}
use Rattle.page_store.specs.declared.marks.Mark.{Mark}
use Rattle.page_store.specs.declared.marks.Mark.TheVariants.{Committed, Fresh, Free}
use Rattle.page_store.specs.Marks.{mark, let_go, free_count}
use Rattle.page_store.specs.Store.{Store, reads}
use Rattle.btree.specs.Page.{Item}
use Rattle.btree.specs.declared.page.widths.Widths.{Widths}
use Rattle.btree.specs.Tree.{IsMap}

-- in this store, below this root, on these pages, is the map of these entries
abbrev pub HoldsMap : Widths → Store → ℕ → List ℕ → List Item → Type 0
HoldsMap w store root pages es = IsMap w (length store.marks) root pages es (reads store)

-- these pages are in use
abbrev pub AreHeld : List Mark → List ℕ → Type 0
AreHeld marks pages = (p : ℕ) → Contains pages p → (mark marks p ≡ Committed) ⊎ (mark marks p ≡ Fresh)

-- others take the place of these pages: each of them is one of these or was free; what is not among them is released; no
-- other page that is in use changes
pub record TakePlace (pages others : List ℕ) (old new : Store) : Type 0 where
  pub held : AreHeld new.marks others
  pub from : (p : ℕ) → Contains others p → Contains pages p ⊎ (mark old.marks p ≡ Free)
  pub gone : (p : ℕ) → Contains pages p → ¬ Contains others p → mark new.marks p ≡ let_go (mark old.marks p)
  pub kept : (p : ℕ) → ¬ Contains pages p → ¬ Contains others p → mark new.marks p ≡ mark old.marks p
  pub reads : IsTrue old.disk.honest → (p : ℕ) → ¬ Contains pages p → ¬ (mark old.marks p ≡ Free) → reads new p ≡ reads old p

-- a map is not read: the disk failed; below this root is no map, as far as the disk is honest; or the store is closed
abbrev pub MapReadCause : Widths → ℕ → Store → Store → PageFault → Type 0
MapReadCause w root old new Disk = Grew old.failures new.failures
MapReadCause w root old new Damaged = IsTrue old.disk.honest → (pages : List ℕ) (es : List Item) → ¬ HoldsMap w old root pages es
MapReadCause w root old new Closed = old.closed ≡ true
MapReadCause w root old new _ = ⊥

-- an entry is not put: as a map is not read, or a page is needed and none is free
abbrev pub MapPutCause : Widths → ℕ → Store → Store → PageFault → Type 0
MapPutCause w root old new Disk = Grew old.failures new.failures
MapPutCause w root old new Damaged = IsTrue old.disk.honest → (pages : List ℕ) (es : List Item) → ¬ HoldsMap w old root pages es
MapPutCause w root old new TableFull = free_count new.marks ≡ 0
MapPutCause w root old new Closed = old.closed ≡ true
MapPutCause w root old new _ = ⊥
