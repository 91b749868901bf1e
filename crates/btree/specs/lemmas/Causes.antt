-- Why an entry is not put.
use Rattle.std.specs.Prelude.{◌≡◌, ℕ, ◌<◌, ◌≤◌, true, length, Contains, IsTrue}
use Rattle.sector_disk.specs.Disk.{Grew}
use Rattle.page_store.specs.declared.fault.PageFault.{PageFault}
use Rattle.page_store.specs.declared.fault.PageFault.TheVariants.{Disk, Damaged, TableFull, Closed}
use Rattle.page_store.specs.Marks.{free_count}
use Rattle.page_store.specs.Store.{Store, reads}
use Rattle.btree.specs.declared.page.widths.Widths.{Widths}
use Rattle.btree.specs.Tree.{pages_below, IsTree}

-- pages are not written: the disk failed, a page is needed and none is free, or the store is closed
abbrev pub WriteCause : Store → Store → PageFault → Type 0
WriteCause old new Disk = Grew old.failures new.failures
WriteCause old new TableFull = free_count new.marks ≡ 0
WriteCause old new Closed = old.closed ≡ true
WriteCause old new _ = ⊥

-- the tree has no more levels below its first page than these, and pages that can be read
pub record IsReadable (w : Widths) (levels page : ℕ) (store : Store) : Type 0 where
  pub depth : ℕ
  pub shallow : depth ≤ levels
  pub tree : IsTree w (reads store) depth page
  pub within : (p : ℕ) → Contains (pages_below w (reads store) depth page) p → (1 ≤ p) × (p < length store.marks)

-- an entry is not put below this page: or there is no such tree, as far as the disk is honest
abbrev pub BelowCause : Widths → ℕ → ℕ → Store → Store → PageFault → Type 0
BelowCause w levels page old new Disk = Grew old.failures new.failures
BelowCause w levels page old new Damaged = IsTrue old.disk.honest → IsReadable w levels page old → ⊥
BelowCause w levels page old new TableFull = free_count new.marks ≡ 0
BelowCause w levels page old new Closed = old.closed ≡ true
BelowCause w levels page old new _ = ⊥
