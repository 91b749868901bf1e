-- What reading the game that a slot names gives, and why it gives nothing.
use Rattle.std.specs.Prelude.{◌≡◌, ℕ, true, List, [], length, Option, None, Some, IsTrue}
use Rattle.sector_disk.specs.Disk.{Grew}
use Rattle.page_store.specs.declared.marks.Mark.TheVariants.{Committed}
use Rattle.page_store.specs.Marks.{mark}
use Rattle.page_store.specs.Store.{Store, reads}
use Rattle.game_file.specs.declared.fault.FileFault.{FileFault}
use Rattle.game_file.specs.declared.fault.FileFault.TheVariants.{Disk, Damaged, OutOfMemory, Closed}
use Rattle.game_file.specs.Kept.{Kept}
use Rattle.tree_table.specs.declared.slot.TreeSlot.{TreeSlot}
use Rattle.tree_table.specs.declared.tree.Tree.{Tree}
use Rattle.tree_table.specs.Held.{KeepsOnPages, KeepsTrees}
use Rattle.tree_table.specs.KeptTrees.{IsOneOf}
use Rattle.page_store.specs.Pages.{AllWait}

-- the root and pages that are marked now, and no others, keep this text and a table
pub record IsReadGame (text : List ℕ) (old new : Store) : Type 0 where
  pub kept : Kept
  pub text_is : kept.text ≡ text
  pub text_pages : List ℕ
  pub pages : Tree → List ℕ
  pub keeps : KeepsOnPages old.root (length old.marks) kept text_pages pages (reads old)
  pub marked : (p : ℕ) → IsOneOf text_pages pages p → mark new.marks p ≡ Committed
  pub others : (p : ℕ) → ¬ IsOneOf text_pages pages p → mark new.marks p ≡ mark old.marks p

-- so where the slot names a game; else nothing is marked
abbrev pub IsReadFor : Option TreeSlot → List ℕ → Store → Store → Type 0
IsReadFor None text old new = (text ≡ []) × (new.marks ≡ old.marks)
IsReadFor (Some slot) text old new = IsTrue old.disk.honest → IsReadGame text old new

-- no game is read: the disk failed; with pages that all wait, the root and the pages keep no table, as far as the disk is honest;
-- memory ran out; or the store is closed
abbrev pub NoGameReadCause : Store → Store → FileFault → Type 0
NoGameReadCause old new Disk = Grew old.failures new.failures
NoGameReadCause old new Damaged =
    IsTrue old.disk.honest → AllWait old → (kept : Option Kept) → ¬ KeepsTrees old.root (length old.marks) kept (reads old)
NoGameReadCause old new OutOfMemory = Unit {0}
NoGameReadCause old new Closed = old.closed ≡ true
NoGameReadCause old new _ = ⊥
