-- What one step of reading or writing a chain does.
use Rattle.std.specs.Prelude.{◌≡◌, ◌⊎◌, ℕ, ◌+◌, ◌<◌, ◌≤◌, List, [], ◌∷◌, ◌++◌, length, drop, Contains, false, IsTrue}
use Rattle.page_store.specs.declared.marks.Mark.TheVariants.{Committed, Waiting, Fresh, Free}
use Rattle.page_store.specs.Marks.{mark, IsMarked}
use Rattle.page_store.specs.Pages.{IsOnce}
use Rattle.page_store.specs.Store.{Store, reads, StoreWorks}
use Rattle.page_chain.specs.Chain.{next_in}
use Rattle.page_chain.specs.declared.page.TheConstants.{PAYLOAD}

-- a page that waited is marked, and what it holds is joined to what was read
pub record IsJoined (page next : ℕ) (old new : Store) (pages more content longer : List ℕ) : Type 0 where
  pub waited : mark old.marks page ≡ Waiting
  pub is_page : 1 ≤ page
  pub within : page < length old.marks
  pub marks : IsMarked page Committed old.marks new.marks
  pub pages_are : more ≡ pages ++ page ∷ []
  pub long : length longer ≡ length content + PAYLOAD
  pub holds : IsTrue old.disk.honest → longer ≡ content ++ drop 4 (reads old page)
  pub leads : IsTrue old.disk.honest → next ≡ next_in (reads old page)

-- some free pages are handed out, and else the store is as it was
pub record HandsOut (old new : Store) : Type 0 where
  pub works : StoreWorks old new
  pub disk : new.disk ≡ old.disk
  pub failures : new.failures ≡ old.failures
  pub closed : new.closed ≡ old.closed
  pub others : (p : ℕ) → (mark new.marks p ≡ mark old.marks p) ⊎ ((mark old.marks p ≡ Free) × (mark new.marks p ≡ Fresh))

-- this many free pages are handed out, and these are they
pub record AreTaken (old new : Store) (count : ℕ) (pages : List ℕ) : Type 0 where
  pub many : length pages ≡ count
  pub within : (p : ℕ) → Contains pages p → (1 ≤ p) × (p < length old.marks)
  pub once : IsOnce pages
  pub were : (p : ℕ) → Contains pages p → mark old.marks p ≡ Free
  pub are : (p : ℕ) → Contains pages p → mark new.marks p ≡ Fresh
  pub kept : (p : ℕ) → (mark new.marks p ≡ mark old.marks p) ⊎ Contains pages p
  pub gone : 1 ≤ count → new.closed ≡ false
