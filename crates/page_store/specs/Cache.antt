-- Pages in memory.
use Rattle.std.specs.Prelude.{◌≡◌, ◌≢◌, ◌⊎◌, ℕ, ◌<◌, List, length, IsTrue}
use Rattle.page_store.specs.declared.cache.PageCache.{PageCache}
use Rattle.page_store.specs.Marks.{IsKept}
use Rattle.page_store.specs.Places.{IsPlaced, HoldsAt, kept_at}
use Rattle.sector_disk.specs.Pages.{HasSectors}
use Rattle.page_store.specs.Store.{Store}

-- the place of a page in the cache
abbrev pub HasPlace : PageCache → ℕ → ℕ → Type 0
HasPlace cache = IsPlaced cache.numbers.items cache.kept.items

-- the cache holds this page with these bytes
abbrev pub HoldsPage : PageCache → ℕ → List ℕ → Type 0
HoldsPage cache = HoldsAt cache.numbers.items cache.kept.items

-- what the one holds the other held
abbrev pub OnlyForgets : PageCache → PageCache → Type 0
OnlyForgets old new = (p : ℕ) (bytes : List ℕ) → HoldsPage new p bytes → HoldsPage old p bytes

-- the page, which the cache holds at this place, where it had these bytes, was edited there: other bytes, by the edit; all else in the
-- cache was there
pub record IsEditedAt (Edits : List ℕ → List ℕ → Type 0) (page place : ℕ) (was : List ℕ) (old new : PageCache) : Type 0 where
  pub held : HoldsPage old page was
  pub within : place < length new.kept.items
  pub edits : Edits was (kept_at new.kept.items place)
  pub after : (p : ℕ) (bytes : List ℕ) → HoldsPage new p bytes
      → ((p ≡ page) × (bytes ≡ (kept_at new.kept.items place))) ⊎ ((p ≢ page) × HoldsPage old p bytes)

-- each page in the cache is one that the next root may need, with the bytes that its sectors have; so a page of a commit that
-- was given up is in no cache
pub record IsCacheOf (store : Store) (cache : PageCache) : Type 0 where
  pub kept : (p : ℕ) (bytes : List ℕ) → HoldsPage cache p bytes → IsKept store.marks p
  pub same : (p : ℕ) (bytes : List ℕ) → HoldsPage cache p bytes → IsTrue store.disk.honest → HasSectors store.disk.now.contents p bytes
