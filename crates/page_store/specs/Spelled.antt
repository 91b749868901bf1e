-- What pages spell for a layer above. `Spelt bytes` says that pages with these bytes, read from some root on, spell it;
-- `named` are the pages that are reached from that root.
use Rattle.std.specs.Prelude.{◌≡◌, ◌⊎◌, ℕ, ◌*◌, ◌≤◌, List, length, IsTrue}
use Rattle.sector_disk.specs.Disk.{Image, LeavesOnly}
use Rattle.root_pair.specs.Root.{HoldsRoot}
use Rattle.page_store.specs.declared.holds.HoldPlace.{HoldPlace}
use Rattle.page_store.specs.Marks.{mark, rests, IsNeeded, IsKept}
use Rattle.page_store.specs.Page.{page}
use Rattle.page_store.specs.Store.{Store, reads, IsHeldBy, IsCommitted, IsStoreGrown, IsLengthened, IsUnchanged}

-- these pages alone, with the bytes that they have here, spell it
pub record SpelledBy (named : ℕ → Type 0) (bytes : ℕ → List ℕ) (Spelt : (ℕ → List ℕ) → Type 0) : Type 0 where
  pub anywhere : (other : ℕ → List ℕ) → ((p : ℕ) → named p → other p ≡ bytes p) → Spelt other

-- the pages of the committed root spell it, and none of them is written before the next commit
pub record Stands (named : ℕ → Type 0) (Spelt : (ℕ → List ℕ) → Type 0) (store : Store) : Type 0 where
  pub spelled : SpelledBy named (reads store) Spelt
  pub needed : (p : ℕ) → named p → IsNeeded store.marks p

-- pages that the next commit keeps spell it
pub record IsPrepared (named : ℕ → Type 0) (Spelt : (ℕ → List ℕ) → Type 0) (store : Store) : Type 0 where
  pub spelled : SpelledBy named (reads store) Spelt
  pub kept : (p : ℕ) → named p → IsKept store.marks p

-- the image has this root and room for this many pages, and its pages spell it
pub record Spells (root : List ℕ) (capacity : ℕ) (Spelt : (ℕ → List ℕ) → Type 0) (image : Image) : Type 0 where
  pub holds : HoldsRoot root image
  pub room : 8 * capacity ≤ length image
  pub spelt : Spelt (page image)

-- work from `old` to `mid` and a commit of this root from there to `new`: a stop since `old` leaves what stood there or
-- what was prepared in `mid`; after Ok that stands, and after a refusal that left the store as it was the old still does
pub record IsCarried (root : List ℕ) (was_named : ℕ → Type 0) (Was : (ℕ → List ℕ) → Type 0) (named : ℕ → Type 0) (Is : (ℕ → List ℕ)
    → Type 0) (old mid new : Store) : Type 0 where
  pub stop : LeavesOnly old.disk new.disk (λ image. Spells old.root (length old.marks) Was image
      ⊎ Spells root (length old.marks) Is image)
  pub done : IsCommitted root mid new → Stands named Is new
  pub left : IsUnchanged mid new → Stands was_named Was new
  pub left_stop : IsUnchanged mid new → LeavesOnly old.disk new.disk (Spells old.root (length old.marks) Was)

-- a store grows from `old` to `new`, to this many pages and by this root: a stop since `old` leaves what stood there, under the old root or
-- under the new one with room for this many pages; it stands in `new`, after Ok and after a refusal that left the store open, and
-- such a refusal leaves it under the old root
pub record IsCarriedGrown (root : List ℕ) (pages : ℕ) (named : ℕ → Type 0) (Spelt : (ℕ → List ℕ) → Type 0) (old new : Store) : Type 0 where
  pub stop : LeavesOnly old.disk new.disk (λ image. Spells old.root (length old.marks) Spelt image ⊎ Spells root pages Spelt image)
  pub done : IsStoreGrown root pages old new → Stands named Spelt new
  pub left : IsLengthened old new → Stands named Spelt new
  pub left_stop : IsLengthened old new → LeavesOnly old.disk new.disk (Spells old.root (length old.marks) Spelt)

-- nothing is handed out or released, and no page waits: as after a commit
pub record IsCalm (store : Store) : Type 0 where
  pub each : (p : ℕ) → IsTrue (rests (mark store.marks p))

-- the pages that a hold needs spell it: none of them is written before the hold is let go
pub record StandsHeld (place : HoldPlace) (named : ℕ → Type 0) (Spelt : (ℕ → List ℕ) → Type 0) (store : Store) : Type 0 where
  pub spelled : SpelledBy named (reads store) Spelt
  pub held : (p : ℕ) → named p → IsHeldBy place store p

-- the root, the marks and the bytes of the needed pages are as they were
pub record IsBack (old new : Store) : Type 0 where
  pub root : new.root ≡ old.root
  pub marks : new.marks ≡ old.marks
  pub reads : IsTrue old.disk.honest → (p : ℕ) → IsNeeded old.marks p → reads new p ≡ reads old p
