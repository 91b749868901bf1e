-- What a commit of a table at work leaves, what giving it up does, and what room for more pages does.
use Rattle.std.specs.Prelude.{◌≡◌, ◌≢◌, ℕ, ◌≤◌, List, length, false, Option, None, Some, IsTrue}
use Rattle.sector_disk.specs.Disk.{GoesOn, size}
use Rattle.page_store.specs.Causes.{StoreCommitCause, GrowCause}
use Rattle.page_store.specs.declared.fault.PageFault.{PageFault}
use Rattle.page_store.specs.declared.fault.PageFault.TheVariants as page
use Rattle.page_store.specs.declared.marks.Mark.TheVariants.{Waiting}
use Rattle.page_store.specs.Marks.{mark, AreDiscarded}
use Rattle.page_store.specs.Spelled.{IsCalm}
use Rattle.page_store.specs.Store.{Store, StoreCloses, IsCommitted, IsRemarked, reads}
use Rattle.position_pack.specs.declared.kind.PackingKind.{PackingKind}
use Rattle.retrograde.specs.Stored.{Stored, loaded}
use Rattle.table.specs.declared.fault.TableFault.{TableFault}
use Rattle.table.specs.declared.fault.TableFault.TheVariants.{Disk}
use Rattle.game_file.specs.Fields.{commits_in, layout_in, goal_numbered, HasPlaceFor, SaysPages}
use Rattle.game_file.specs.Kept.{Kept, kept_as}
use Rattle.game_file.specs.Stops.{LeavesTable}
use Rattle.tree_table.specs.declared.slot.TreeSlot.{TreeSlot}
use Rattle.tree_table.specs.Causes.{StartCause}
use Rattle.tree_table.specs.Held.{StoresTrees}
use Rattle.tree_table.specs.KeptTrees.{IsKeptInTrees, IsStill, IsVacant, IsWorkedOn, StandsInTrees, slot_or_bare}
use Rattle.tree_table.specs.Slot.{slot_in}
use Rattle.tree_table.specs.Versions.{KeepsHolds}
use Rattle.tree_table.specs.WorkTable.{Work, HoldsTable}

-- only its pages may have changed: the slot, the text, and whether a call has stopped half way, are as they were
pub record OnlyPages (old new : Work) : Type 0 where
  pub slot : new.slot ≡ old.slot
  pub text : new.text ≡ old.text
  pub torn : new.torn ≡ old.torn

-- a later state of the same store, over calls and commits: its holds are as they were, there are as many pages on a disk of the same size, no
-- failure is forgotten, and it is closed exactly where a write failed since
pub record StoreAdvances (old new : Store) : Type 0 where
  pub held : KeepsHolds old new
  pub time : GoesOn old.disk new.disk
  pub same_size : size new.disk ≡ size old.disk
  pub failures : old.failures ≤ new.failures
  pub same_pages : length new.marks ≡ length old.marks
  pub shut : new.closed ≡ false → old.closed ≡ false
  pub closes : StoreCloses old new

-- the table at work is committed: the root has the layout of the old one, tells this count of commits and how many pages there are, and names the
-- slot where it has a place for its goal; what the pages held they hold, and the root needs them; whoever began the work with a kept table has the
-- other one kept
pub record IsSaved (count : ℕ) (old new : Work) : Type 0 where
  pub commits : commits_in new.store.root ≡ count
  pub layout : layout_in new.store.root ≡ layout_in old.store.root
  pub pages : SaysPages new.store.root (length new.store.marks)
  pub root : HasPlaceFor (layout_in old.store.root) old.slot.goal → slot_in new.store.root ≡ old.slot
  pub done : (begun : Store) (was : Option Kept) (is : Kept) → IsWorkedOn old.slot begun old.store was is → IsKeptInTrees new.store (Some is)
  pub stands : old.torn ≡ false → IsTrue old.store.disk.honest → ∥ StandsInTrees old.slot old.text new.store ∥₁
  pub holds : IsTrue old.store.disk.honest → (text : List ℕ) (table : Stored (List ℕ)) → HoldsTable old.slot text table old.store
      → HoldsTable old.slot text table new.store
  pub needed : IsTrue old.store.disk.honest → (text : List ℕ) (table : Stored (List ℕ)) → HoldsTable old.slot text table old.store
      → StandsInTrees old.slot text new.store
  pub calm : ((p : ℕ) → mark old.store.marks p ≡ Waiting → ⊥) → IsCalm new.store
  pub committed : (root : List ℕ) × IsCommitted root old.store new.store
  pub kept_pages : IsTrue old.store.disk.honest → (p : ℕ) → 1 ≤ p → reads new.store p ≡ reads old.store p
  pub «open» : new.store.closed ≡ false

-- it is not: the root and its pages are as they were, whoever began the work with a kept table has it kept unless the store is closed, only a disk
-- that failed closes the store, and the fault has its cause
pub record IsNotSaved (old new : Work) (fault : PageFault) : Type 0 where
  pub kept : (begun : Store) (was : Option Kept) (is : Kept) → IsWorkedOn old.slot begun old.store was is → new.store.closed ≡ false
      → IsKeptInTrees new.store was
  pub kept_stop : (begun : Store) (was : Option Kept) (is : Kept) → IsWorkedOn old.slot begun old.store was is → new.store.closed ≡ false
      → LeavesTable (StoresTrees (layout_in begun.root) (length begun.marks)) begun.disk new.store.disk was
  pub left : IsStill old.store new.store
  pub kept_marks : new.store.marks ≡ old.store.marks
  pub kept_pages : IsTrue old.store.disk.honest → (p : ℕ) → 1 ≤ p → reads new.store p ≡ reads old.store p
  pub still : fault ≢ page.Disk → new.store.closed ≡ old.store.closed
  pub cause : StoreCommitCause old.store new.store fault

-- a game with this text, packing, goal and start is put where none was, and committed
pub record IsStarted (count : ℕ) (its_text : List ℕ) (kind : PackingKind) (points : Option ℕ) (start : List ℕ) (old new : Work) : Type 0 where
  pub text : new.text ≡ its_text
  pub packing : new.slot.packing ≡ kind
  pub goal : goal_numbered new.slot.goal ≡ points
  pub torn : new.torn ≡ false
  pub commits : commits_in new.store.root ≡ count
  pub layout : layout_in new.store.root ≡ layout_in old.store.root
  pub pages : SaysPages new.store.root (length new.store.marks)
  pub root : slot_in new.store.root ≡ new.slot
  pub done : IsVacant old.store → IsKeptInTrees new.store (Some (kept_as its_text kind points (loaded start)))
  pub stands : IsTrue old.store.disk.honest → StandsInTrees new.slot its_text new.store
  pub holds : IsTrue old.store.disk.honest → HoldsTable new.slot its_text (loaded start) new.store
  pub calm : ((p : ℕ) → mark old.store.marks p ≡ Waiting → ⊥) → IsCalm new.store
  pub «open» : new.store.closed ≡ false

-- none is: the text of before is there, the root and its pages are as they were, no game is kept unless the store is closed, only a disk that
-- failed closes the store, and the fault has its cause
pub record IsNotStarted (long : ℕ) (old new : Work) (fault : TableFault) : Type 0 where
  pub kept_text : new.text ≡ old.text
  pub kept_stop : IsVacant old.store → new.store.closed ≡ false
      → LeavesTable (StoresTrees (layout_in old.store.root) (length old.store.marks)) old.store.disk new.store.disk None
  pub left : IsStill old.store new.store
  pub still : fault ≢ Disk → new.store.closed ≡ old.store.closed
  pub cause : StartCause long old.store new.store fault

-- what was done since the last commit is given up: the slot is the one that the root names, and nothing is handed out, released or waits
pub record IsRestored (game : Option TreeSlot) (old new : Work) : Type 0 where
  pub slot : new.slot ≡ slot_or_bare game
  pub text : new.text ≡ old.text
  pub torn : new.torn ≡ false
  pub still : IsStill old.store new.store
  pub held : KeepsHolds old.store new.store
  pub calm : IsCalm new.store
  pub marks : AreDiscarded old.store.marks new.store.marks
  pub others : IsRemarked old.store new.store

-- no room is made: the root and its pages are as they were, the store is as it was unless the disk failed, and the fault has its cause
pub record HasNotGrown (old new : Store) (fault : PageFault) : Type 0 where
  pub left : IsStill old new
  pub untouched : fault ≢ page.Disk → new ≡ old
  pub cause : GrowCause old new fault
