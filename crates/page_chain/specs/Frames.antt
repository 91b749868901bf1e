-- What writing and reading a chain leave of a store.
use Rattle.std.specs.Prelude.{◌≡◌, ◌≢◌, ◌⊎◌, ℕ, ◌+◌, ◌*◌, ◌<◌, ◌≤◌, false, List, length, take, Contains, IsTrue}
use Rattle.page_store.specs.Causes.{PageWriteCause}
use Rattle.page_store.specs.declared.fault.PageFault.{PageFault}
use Rattle.page_store.specs.declared.fault.PageFault.TheVariants.{Disk, TableFull}
use Rattle.page_store.specs.declared.marks.Mark.TheVariants.{Committed, Waiting, Fresh, Free}
use Rattle.page_store.specs.Marks.{mark, free_count}
use Rattle.page_store.specs.Store.{Store, reads}
use Rattle.page_chain.specs.Causes.{ChainWriteCause}
use Rattle.page_chain.specs.Chain.{IsChain, LeadsThrough, payloads, first_of}
use Rattle.page_chain.specs.declared.page.TheConstants.{PAYLOAD}

-- a chain with this content is written on these pages, which were free, no other page is handed out, and no more are taken than it needs
pub record IsChainWritten (content pages : List ℕ) (old new : Store) : Type 0 where
  pub chain : IsTrue old.disk.honest → IsChain (length old.marks) (first_of pages) pages content (reads new)
  pub fresh : (p : ℕ) → Contains pages p → mark new.marks p ≡ Fresh
  pub freed : (p : ℕ) → Contains pages p → mark old.marks p ≡ Free
  pub kept : (p : ℕ) → (mark new.marks p ≡ mark old.marks p) ⊎ Contains pages p
  pub few : PAYLOAD * free_count old.marks < PAYLOAD * free_count new.marks + length content + PAYLOAD
  pub «open» : 1 ≤ length content → new.closed ≡ false
  pub closed : new.closed ≡ old.closed

-- none is: nothing is handed out where too few pages are free, only a disk that failed closes the store, and the fault has its cause
pub record IsNotWritten (long : ℕ) (old new : Store) (fault : PageFault) : Type 0 where
  pub refused : fault ≡ TableFull → new ≡ old
  pub still : fault ≢ Disk → new.closed ≡ old.closed
  pub cause : ChainWriteCause long old new fault

-- the content is on these pages, each of which leads to the next
pub record AreLinked (content pages : List ℕ) (old new : Store) : Type 0 where
  pub leads : IsTrue old.disk.honest → LeadsThrough (reads new) (first_of pages) pages
  pub holds : IsTrue old.disk.honest → take (length content) (payloads (reads new) pages) ≡ take (PAYLOAD * length pages) content
  pub «open» : 1 ≤ length pages → new.closed ≡ false
  pub closed : new.closed ≡ old.closed

-- a page of them is not written
pub record AreNotLinked (old new : Store) (fault : PageFault) : Type 0 where
  pub still : fault ≢ Disk → new.closed ≡ old.closed
  pub cause : PageWriteCause old new fault

-- a chain with this content is read from this page on: its pages waited, and they alone are marked
pub record IsChainRead (first size : ℕ) (pages content : List ℕ) (old new : Store) : Type 0 where
  pub chain : IsTrue old.disk.honest → IsChain (length old.marks) first pages content (reads old)
  pub long : length content ≡ size
  pub marked : (p : ℕ) → Contains pages p → mark new.marks p ≡ Committed
  pub waited : (p : ℕ) → Contains pages p → mark old.marks p ≡ Waiting
  pub kept : (p : ℕ) → (mark new.marks p ≡ mark old.marks p) ⊎ Contains pages p
