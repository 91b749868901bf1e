-- Lists of pages, and which of them wait.
use Rattle.std.specs.Prelude.{◌≡◌, ℕ, ◌≤◌, ◌<◌, List, length, slice_get, Contains, Some}
use Rattle.page_store.specs.declared.marks.Mark.TheVariants.{Waiting}
use Rattle.page_store.specs.Marks.{mark}
use Rattle.page_store.specs.Store.{Store}

-- no page is named twice
abbrev pub IsOnce : List ℕ → Type 0
IsOnce pages = (i j p : ℕ) → slice_get pages i ≡ Some p → slice_get pages j ≡ Some p → i ≡ j

-- each of these pages waits to be marked
abbrev pub AreWaiting : List ℕ → Store → Type 0
AreWaiting pages store = (p : ℕ) → Contains pages p → mark store.marks p ≡ Waiting

-- each page of the store waits to be marked, as in a store that was just opened
abbrev pub AllWait : Store → Type 0
AllWait store = (p : ℕ) → 1 ≤ p → p < length store.marks → mark store.marks p ≡ Waiting
