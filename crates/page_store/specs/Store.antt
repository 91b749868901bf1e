-- What is stated of a store of pages, and what a stop within a call leaves.
use Rattle.std.specs.Prelude.{◌≡◌, ◌⊎◌, ℕ, ◌*◌, ◌/◌, ◌<◌, ◌≤◌, min, Bool, true, false, List, length, IsTrue}
use Rattle.sector_disk.specs.Disk.{Image, Disk, size, sector, GoesOn, Grew, IsLonger, LeavesOnly, MayLeave, SyncedMore}
use Rattle.root_pair.specs.Root.{HoldsRoot, root_of, IsAtRest}
use Rattle.page_store.specs.declared.marks.Mark.{Mark}
use Rattle.page_store.specs.declared.marks.Mark.TheVariants.{Committed, Waiting}
use Rattle.page_store.specs.declared.holds.HoldPlace.{HoldPlace}
use Rattle.page_store.specs.Holds.{Holds, SameHolds, holders_at, needed_by, with_need, any, none}
use Rattle.page_store.specs.Marks.{mark, needs, is_past, is_rooted, stays, IsNeeded, AreCommitted, AreGrown, AreLeft}
use Rattle.page_store.specs.Page.{page, IsWithin}
use Rattle.page_store.specs.declared.limits.TheConstants.{MAX_PAGES}

-- a store of pages
pub record Store : Type 0 where
  -- what is stated of its disk
  pub disk : Disk
  -- how often the disk has failed
  pub failures : ℕ
  -- the committed root
  pub root : List ℕ
  -- what each page is used for; there are as many pages as marks
  pub marks : List Mark
  -- a write or a sync has failed
  pub closed : Bool
  -- which holds are taken, and which pages they need
  pub holds : Holds

-- the store of these parts
abbrev pub store_of : Disk → ℕ → List ℕ → List Mark → Bool → Holds → Store
store_of d f r m c h = record { disk = d; failures = f; root = r; marks = m; closed = c; holds = h }

-- what each page reads as now
abbrev pub reads : Store → ℕ → List ℕ
reads store p = page store.disk.now.contents p

-- this hold needs the page
abbrev pub IsHeldBy : HoldPlace → Store → ℕ → Type 0
IsHeldBy place store p = (1 ≤ p) × IsTrue (needed_by (holders_at store.holds.of p) place)

-- the image has this root, room for this many pages, and these pages with these bytes
pub record HasPages (root : List ℕ) (capacity : ℕ) (needed : ℕ → Type 0) (bytes : ℕ → List ℕ) (image : Image) : Type 0 where
  pub holds : HoldsRoot root image
  pub room : 8 * capacity ≤ length image
  pub pages : (p : ℕ) → needed p → page image p ≡ bytes p

-- the image has the committed root and the pages that it may need
abbrev pub Saved : Store → Image → Type 0
Saved store = HasPages store.root (length store.marks) (IsNeeded store.marks) (reads store)

-- the image has this root in its place, and all pages as they read
abbrev pub SavedAs : List ℕ → Store → Image → Type 0
SavedAs root store = HasPages root (length store.marks) (λ p. 1 ≤ p) (reads store)

-- the image has this root in its place, room for this many pages, and each page of the store as it reads
abbrev pub SavedIn : List ℕ → ℕ → Store → Image → Type 0
SavedIn root pages store = HasPages root pages (λ p. (1 ≤ p) × (p < length store.marks)) (reads store)

-- a stop now leaves such an image
abbrev pub StopLeaves : Store → (Image → Type 0) → Type 0
StopLeaves store Such = (image : Image) → MayLeave store.disk.now image → Such image

-- a stop leaves the committed root and the pages that it may need
pub record IsSafe (store : Store) : Type 0 where
  pub rest : IsAtRest store.disk.now
  pub room : 8 * length store.marks ≤ store.disk.now.lasting
  pub root : root_of store.disk.now.contents ≡ store.root
  pub synced : (p : ℕ) → IsNeeded store.marks p → (k : ℕ) → IsWithin p k → IsTrue (store.disk.now.synced k)

-- a page that a hold needs is neither free nor handed out, and the hold is taken; a page that the committed root does not need and that
-- stays has a hold that needs it
pub record AreSoundHolds (marks : List Mark) (holds : Holds) : Type 0 where
  pub same_length : length holds.of ≡ length marks
  pub taken : (place : HoldPlace) (p : ℕ) → IsTrue (needed_by (holders_at holds.of p) place) → IsTrue (needed_by holds.taken place)
  pub stay : (place : HoldPlace) (p : ℕ) → IsTrue (needed_by (holders_at holds.of p) place) → IsTrue (stays (mark marks p))
  pub past : (p : ℕ) → IsTrue (is_past (mark marks p)) → IsTrue (any (holders_at holds.of p))

-- what is true of each store, closed or not
pub record IsSoundStore (store : Store) : Type 0 where
  pub least : 4 ≤ size store.disk
  pub fits : 8 * length store.marks ≤ size store.disk
  pub few : length store.marks ≤ MAX_PAGES
  pub system : mark store.marks 0 ≡ Committed
  pub safe : IsTrue store.disk.honest → store.closed ≡ false → IsSafe store
  pub holds : AreSoundHolds store.marks store.holds

-- when a call closes a store or a file: if and only if a write, a sync or an extension of its disk fails in it. Once closed it stays closed.
-- Before and after the call: whether it is closed, and how many have failed
pub record ClosesByWrites (was : Bool) (before : ℕ) (is : Bool) (now : ℕ) : Type 0 where
  pub stays : is ≡ false → was ≡ false
  pub none : is ≡ false → now ≡ before
  pub cause : was ≡ false → is ≡ true → Grew before now

-- a call closes a store only by a failed write or sync
abbrev pub StoreCloses : Store → Store → Type 0
StoreCloses old new = ClosesByWrites old.closed old.disk.failed_writes new.closed new.disk.failed_writes

-- the header, which is sector 0, reads as it did
abbrev pub SameHeader : Disk → Disk → Type 0
SameHeader old new = IsTrue old.honest → sector new.now.contents 0 ≡ sector old.now.contents 0

-- a call that commits nothing: the committed root and the pages that it may need stay, for reads and for stops; so do the holds and
-- their pages, for reads, and the header
pub record StoreWorks (old new : Store) : Type 0 where
  pub goes_on : GoesOn old.disk new.disk
  pub same_size : size new.disk ≡ size old.disk
  pub failures : old.failures ≤ new.failures
  pub root : new.root ≡ old.root
  pub same_pages : length new.marks ≡ length old.marks
  pub closed : new.closed ≡ false → old.closed ≡ false
  pub closes : StoreCloses old new
  pub waiting : (p : ℕ) → mark new.marks p ≡ Waiting → mark old.marks p ≡ Waiting
  pub needed : (p : ℕ) → needs (mark new.marks p) ≡ needs (mark old.marks p)
  pub holds : new.holds ≡ old.holds
  pub past : (p : ℕ) → is_past (mark new.marks p) ≡ is_past (mark old.marks p)
  pub held : IsTrue old.disk.honest → (place : HoldPlace) (p : ℕ) → IsHeldBy place old p → reads new p ≡ reads old p
  pub reads : IsTrue old.disk.honest → (p : ℕ) → IsNeeded old.marks p → reads new p ≡ reads old p
  pub header : SameHeader old.disk new.disk
  pub safe : IsTrue old.disk.honest → IsSafe old → IsSafe new
  pub leaves : IsTrue old.disk.honest → IsSafe old → LeavesOnly old.disk new.disk (Saved old)

-- a call without the disk: only marks change
pub record IsRemarked (old new : Store) : Type 0 where
  pub disk : new.disk ≡ old.disk
  pub failures : new.failures ≡ old.failures
  pub root : new.root ≡ old.root
  pub closed : new.closed ≡ old.closed
  pub holds : new.holds ≡ old.holds

-- a call without the disk: only the pages below this number are there, and the holds need each of them as they did
pub record IsShortened (pages : ℕ) (old new : Store) : Type 0 where
  pub disk : new.disk ≡ old.disk
  pub failures : new.failures ≡ old.failures
  pub root : new.root ≡ old.root
  pub closed : new.closed ≡ old.closed
  pub taken : new.holds.taken ≡ old.holds.taken
  pub holders : (p : ℕ) → p < pages → holders_at new.holds.of p ≡ holders_at old.holds.of p

-- all but the disk is as it was; on an honest disk reads give the same, and a stop meanwhile leaves what it could leave before
pub record IsUnchanged (old new : Store) : Type 0 where
  pub root : new.root ≡ old.root
  pub marks : new.marks ≡ old.marks
  pub closed : new.closed ≡ old.closed
  pub shown : IsTrue old.disk.honest → new.disk.now ≡ old.disk.now
  pub leaves : IsTrue old.disk.honest → LeavesOnly old.disk new.disk (MayLeave old.disk.now)
  pub holds : new.holds ≡ old.holds
  pub failed_writes : new.disk.failed_writes ≡ old.disk.failed_writes

-- a commit of this root, whatever it answers: a stop leaves what was saved before, or this root and all pages as they read; the holds
-- stay, and their pages, and the header
pub record Commits (root : List ℕ) (old new : Store) : Type 0 where
  pub goes_on : GoesOn old.disk new.disk
  pub same_size : size new.disk ≡ size old.disk
  pub failures : old.failures ≤ new.failures
  pub leaves : IsTrue old.disk.honest → IsSafe old → LeavesOnly old.disk new.disk (λ image. Saved old image ⊎ SavedAs root old image)
  pub closes : StoreCloses old new
  pub holds : new.holds ≡ old.holds
  pub held : IsTrue old.disk.honest → (place : HoldPlace) (p : ℕ) → IsHeldBy place old p → reads new p ≡ reads old p
  pub header : SameHeader old.disk new.disk

-- a commit answers Ok: this root, all pages as they read, and the marks of a new beginning, where a page that was released stays for
-- the holds that need it
pub record IsCommitted (root : List ℕ) (old new : Store) : Type 0 where
  pub is : new.root ≡ root
  pub marks : AreCommitted old.holds.of old.marks new.marks
  pub closed : new.closed ≡ false
  pub reads : IsTrue old.disk.honest → (p : ℕ) → 1 ≤ p → reads new p ≡ reads old p

-- the disk may have become longer, and all else is as it was: a stop meanwhile leaves the committed root and the pages that it may need
pub record IsLengthened (old new : Store) : Type 0 where
  pub root : new.root ≡ old.root
  pub marks : new.marks ≡ old.marks
  pub closed : new.closed ≡ old.closed
  pub holds : new.holds ≡ old.holds
  pub longer : IsTrue old.disk.honest → IsLonger old.disk.now new.disk.now
  pub safe : IsTrue old.disk.honest → IsSafe old → IsSafe new
  pub leaves : IsTrue old.disk.honest → IsSafe old → LeavesOnly old.disk new.disk (Saved old)
  pub failed_writes : new.disk.failed_writes ≡ old.disk.failed_writes

-- the store grows to this many pages, by this root, whatever is answered: the disk may be longer afterwards; a stop leaves what was saved
-- before, or this root, room for this many pages, and each page that was there as it reads; the holds stay, and their pages
pub record StoreGrows (root : List ℕ) (pages : ℕ) (old new : Store) : Type 0 where
  pub goes_on : GoesOn old.disk new.disk
  pub no_shorter : size old.disk ≤ size new.disk
  pub failures : old.failures ≤ new.failures
  pub leaves : IsTrue old.disk.honest → IsSafe old → LeavesOnly old.disk new.disk (λ image. Saved old image ⊎ SavedIn root pages old image)
  pub closes : StoreCloses old new
  pub no_fewer : length old.marks ≤ length new.marks
  pub holds : SameHolds old.holds new.holds
  pub held : IsTrue old.disk.honest → (place : HoldPlace) (p : ℕ) → IsHeldBy place old p → reads new p ≡ reads old p

-- growing answers Ok: this root, each page that was there as it reads, the marks of a new beginning, where a page that was released
-- stays for the holds that need it, and the new pages free
pub record IsStoreGrown (root : List ℕ) (pages : ℕ) (old new : Store) : Type 0 where
  pub is : new.root ≡ root
  pub marks : AreGrown old.holds.of pages old.marks new.marks
  pub closed : new.closed ≡ false
  pub reads : IsTrue old.disk.honest → (p : ℕ) → 1 ≤ p → p < length old.marks → reads new p ≡ reads old p

-- a hold was taken: it is this one, which was not, and it needs the pages that the committed root needs
pub record IsHoldTaken (place : HoldPlace) (old new : Store) : Type 0 where
  pub disk : new.disk ≡ old.disk
  pub failures : new.failures ≡ old.failures
  pub root : new.root ≡ old.root
  pub closed : new.closed ≡ old.closed
  pub marks : new.marks ≡ old.marks
  pub was_free : needed_by old.holds.taken place ≡ false
  pub taken : new.holds.taken ≡ with_need old.holds.taken place true
  pub same_length : length new.holds.of ≡ length old.holds.of
  pub each : (p : ℕ) → p < length old.marks
      → holders_at new.holds.of p ≡ with_need (holders_at old.holds.of p) place (is_rooted (mark old.marks p))

-- a hold was let go: no page stays for it any more
pub record IsLetGo (place : HoldPlace) (old new : Store) : Type 0 where
  pub disk : new.disk ≡ old.disk
  pub failures : new.failures ≡ old.failures
  pub root : new.root ≡ old.root
  pub closed : new.closed ≡ old.closed
  pub marks : AreLeft new.holds.of old.marks new.marks
  pub taken : new.holds.taken ≡ with_need old.holds.taken place false
  pub same_length : length new.holds.of ≡ length old.holds.of
  pub each : (p : ℕ) → holders_at new.holds.of p ≡ with_need (holders_at old.holds.of p) place false

-- a store as `open` gives it: each page but the system page waits to be marked
pub record IsOpened (disk : Disk) (count : ℕ) (store : Store) : Type 0 where
  pub goes_on : GoesOn disk store.disk
  pub failures : count ≤ store.failures
  pub same_size : size store.disk ≡ size disk
  pub closed : store.closed ≡ false
  pub capacity : length store.marks ≡ min (size disk / 8) MAX_PAGES
  pub marks : (p : ℕ) → 1 ≤ p → p < length store.marks → mark store.marks p ≡ Waiting
  pub holds : store.holds.taken ≡ none
  pub root : IsTrue disk.honest → HoldsRoot store.root disk.now.contents
  pub same : IsTrue disk.honest → SyncedMore disk.now store.disk.now
  pub leaves : IsTrue disk.honest → LeavesOnly disk store.disk (MayLeave disk.now)

-- a disk as a refused `open` gives it back
pub record IsRefusedStore (disk : Disk) (count : ℕ) (back : Disk) (now : ℕ) : Type 0 where
  pub goes_on : GoesOn disk back
  pub failures : count ≤ now
  pub same_size : size back ≡ size disk
  pub same : IsTrue disk.honest → SyncedMore disk.now back.now
  pub leaves : IsTrue disk.honest → LeavesOnly disk back (MayLeave disk.now)
