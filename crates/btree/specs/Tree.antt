-- A map as a tree of pages. `bytes` are what each page reads as.
use Rattle.std.specs.Prelude.{◌≡◌, ◌⊎◌, ℕ, zero, suc, ◌<◌, ◌≤◌, List, [], ◌∷◌, All, Contains, Some}
use Rattle.std.specs.List.{flat_map}
use Rattle.page_store.specs.Pages.{IsOnce}
use Rattle.btree.specs.Page.{Item, IsPage, items_in, child_of}
use Rattle.btree.specs.declared.page.kind.Kind.TheVariants.{Leaf, Inner}
use Rattle.btree.specs.declared.page.widths.Widths.{Widths}
use Rattle.btree.specs.Entries.{Ascend, first_key}
use Rattle.btree.specs.declared.map.limits.TheConstants.{MAX_LEVELS}

-- the entries of the tree of this depth below this page, in order: those of a leaf, or those of each child in turn
abbrev pub entries_below : Widths → (ℕ → List ℕ) → ℕ → ℕ → List Item
entries_below w bytes zero page = items_in w Leaf (bytes page)
entries_below w bytes (suc d) page = flat_map (λ c. entries_below w bytes d (child_of c)) (items_in w Inner (bytes page))

-- its pages: this one, and those of each child in turn
abbrev pub pages_below : Widths → (ℕ → List ℕ) → ℕ → ℕ → List ℕ
pages_below w bytes zero page = page ∷ []
pages_below w bytes (suc d) page = page ∷ flat_map (λ c. pages_below w bytes d (child_of c)) (items_in w Inner (bytes page))

-- the pages have the form of a tree of this depth: each key of an inner page is the first key below its child
abbrev pub IsTree : Widths → (ℕ → List ℕ) → ℕ → ℕ → Type 0
IsTree w bytes zero page = IsPage w Leaf (bytes page)
IsTree w bytes (suc d) page = IsPage w Inner (bytes page)
    × All (λ c. IsTree w bytes d (child_of c) × (first_key (entries_below w bytes d (child_of c)) ≡ Some c.0))
    (items_in w Inner (bytes page))

-- below this root, on these pages, is a tree with these entries: of at most 24 levels, with keys that ascend, each page
-- once and below this capacity
pub record IsRooted (w : Widths) (capacity root : ℕ) (pages : List ℕ) (es : List Item) (bytes : ℕ → List ℕ) : Type 0 where
  pub depth : ℕ
  pub shallow : depth < MAX_LEVELS
  pub tree : IsTree w bytes depth root
  pub pages_are : pages_below w bytes depth root ≡ pages
  pub entries_are : entries_below w bytes depth root ≡ es
  pub ascending : Ascend es
  pub within : (p : ℕ) → Contains pages p → (1 ≤ p) × (p < capacity)
  pub once : IsOnce pages

-- root 0 is that of the map with no entry
pub record IsEmpty (root : ℕ) (pages : List ℕ) (es : List Item) : Type 0 where
  pub at_none : root ≡ 0
  pub no_page : pages ≡ []
  pub no_entry : es ≡ []

-- below this root, on these pages, is the map of these entries
abbrev pub IsMap : Widths → ℕ → ℕ → List ℕ → List Item → (ℕ → List ℕ) → Type 0
IsMap w capacity root pages es bytes = IsEmpty root pages es ⊎ IsRooted w capacity root pages es bytes
