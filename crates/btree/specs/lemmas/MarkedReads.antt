-- What marking and reading one page does.
use Rattle.std.specs.Prelude.{◌≡◌, ℕ, ◌≤◌, ◌<◌, true, List, length, IsTrue}
use Rattle.sector_disk.specs.Disk.{Grew}
use Rattle.page_store.specs.declared.fault.PageFault.{PageFault}
use Rattle.page_store.specs.declared.fault.PageFault.TheVariants.{Disk, Damaged, Closed}
use Rattle.page_store.specs.declared.marks.Mark.TheVariants.{Committed, Waiting}
use Rattle.page_store.specs.Marks.{mark, IsMarked}
use Rattle.page_store.specs.Store.{Store, reads}
use Rattle.btree.specs.declared.page.kind.Kind.{Kind}
use Rattle.btree.specs.declared.page.widths.Widths.{Widths}
use Rattle.btree.specs.Page.{IsPage}

-- a page that waited is marked, and has these bytes, which are of this kind
pub record IsPageTaken (w : Widths) (kind : Kind) (page : ℕ) (bytes : List ℕ) (old new : Store) : Type 0 where
  pub waited : mark old.marks page ≡ Waiting
  pub is_page : 1 ≤ page
  pub within : page < length old.marks
  pub marks : IsMarked page Committed old.marks new.marks
  pub form : IsPage w kind bytes
  pub is : IsTrue old.disk.honest → bytes ≡ reads old page

-- a page is not taken: the disk failed; it does not wait or is not of this kind, as far as the disk is honest; or the
-- store is closed
abbrev pub TakeCause : Widths → Kind → ℕ → Store → Store → PageFault → Type 0
TakeCause w kind page old new Disk = Grew old.failures new.failures
TakeCause w kind page old new Damaged = IsTrue old.disk.honest → mark old.marks page ≡ Waiting → IsPage w kind (reads old page) → ⊥
TakeCause w kind page old new Closed = old.closed ≡ true
TakeCause w kind page old new _ = ⊥
