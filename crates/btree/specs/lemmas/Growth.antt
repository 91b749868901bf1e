-- What the pages below one page become.
use Rattle.std.specs.Prelude.{◌≡◌, ◌≢◌, ℕ, ◌+◌, ◌<◌, ◌≤◌, false, List, [], ◌∷◌, length, map, All, Contains, Some, IsTrue}
use Rattle.std.specs.List.{flat_map}
use Rattle.page_store.specs.declared.marks.Mark.TheVariants.{Fresh}
use Rattle.page_store.specs.Frames.{PagesWritten}
use Rattle.page_store.specs.Marks.{mark, free_count}
use Rattle.page_store.specs.Store.{Store, StoreWorks, reads}
use Rattle.btree.specs.declared.page.kind.Kind.{Kind}
use Rattle.btree.specs.declared.page.widths.Widths.{Widths}
use Rattle.btree.specs.Page.{Item, IsPage, items_in, child_of}
use Rattle.btree.specs.Changes.{AreHeld, TakePlace}
use Rattle.btree.specs.Entries.{Ascend, first_key, put_entry}
use Rattle.btree.specs.Tree.{entries_below, pages_below, IsTree}
use Rattle.page_store.specs.Pages.{IsOnce}

-- the pages are there
abbrev pub AreThere : ℕ → List ℕ → Type 0
AreThere capacity pages = (p : ℕ) → Contains pages p → (1 ≤ p) × (p < capacity)

-- the pages that items lead to
abbrev pub children : List Item → List ℕ
children tops = map child_of tops

-- items are on the pages that these lead to, and those take the place of one page
pub record AreWritten (w : Widths) (kind : Kind) (page : ℕ) (list tops : List Item) (old new : Store) : Type 0 where
  pub place : TakePlace (page ∷ []) (children tops) old new
  pub once : IsOnce (children tops)
  pub there : AreThere (length old.marks) (children tops)
  pub pages : IsTrue old.disk.honest
      → All (λ c. IsPage w kind (reads new (child_of c)) × (first_key (items_in w kind (reads new (child_of c))) ≡ Some c.0)) tops
  pub items : IsTrue old.disk.honest → flat_map (λ c. items_in w kind (reads new (child_of c))) tops ≡ list

-- a page to write in the place of one, which was handed out since the last commit: that one, or one that was free and takes its place
pub record IsRenewed (page : ℕ) (old new : Store) (next : ℕ) : Type 0 where
  pub fresh : mark new.marks next ≡ Fresh
  pub is_page : 1 ≤ next
  pub there : next < length old.marks
  pub place : TakePlace (page ∷ []) (next ∷ []) old new
  pub works : StoreWorks old new
  pub closed : new.closed ≡ old.closed
  pub takes : free_count old.marks ≤ free_count new.marks + 1

-- these items are written on a page, and nothing else is
pub record IsWrittenOn (w : Widths) (kind : Kind) (page : ℕ) (list : List Item) (old new : Store) : Type 0 where
  pub form : IsTrue old.disk.honest → IsPage w kind (reads new page)
  pub items : IsTrue old.disk.honest → items_in w kind (reads new page) ≡ list
  pub others : IsTrue old.disk.honest → (p : ℕ) → p ≢ page → reads new p ≡ reads old p
  pub marks : new.marks ≡ old.marks
  pub «open» : new.closed ≡ false
  pub works : StoreWorks old new

-- these items are on this page, which was free, and nothing else was written
pub record IsOnNewPage (w : Widths) (kind : Kind) (list : List Item) (old new : Store) (page : ℕ) : Type 0 where
  pub written : PagesWritten 1 old new
  pub is_page : 1 ≤ page
  pub there : page < length old.marks
  pub place : TakePlace [] (page ∷ []) old new
  pub form : IsTrue old.disk.honest → IsPage w kind (reads new page)
  pub items : IsTrue old.disk.honest → items_in w kind (reads new page) ≡ list

-- a tree of this depth below this page, on pages that are in use, each once
pub record IsGrowing (w : Widths) (d page : ℕ) (store : Store) : Type 0 where
  pub tree : IsTree w (reads store) d page
  pub ascending : Ascend (entries_below w (reads store) d page)
  pub held : AreHeld store.marks (pages_below w (reads store) d page)
  pub there : AreThere (length store.marks) (pages_below w (reads store) d page)
  pub once : IsOnce (pages_below w (reads store) d page)

-- the trees that these items lead to take its place, with this value at this key
pub record IsGrownTree (w : Widths) (key value : List ℕ) (d page : ℕ) (tops : List Item) (old new : Store) : Type 0 where
  pub trees : All (λ c. IsTree w (reads new) d (child_of c) × (first_key (entries_below w (reads new) d (child_of c)) ≡ Some c.0)) tops
  pub entries : flat_map (λ c. entries_below w (reads new) d (child_of c)) tops ≡ put_entry (entries_below w (reads old) d page) key value
  pub place : TakePlace (pages_below w (reads old) d page) (flat_map (λ c. pages_below w (reads new) d (child_of c)) tops) old new
  pub there : AreThere (length old.marks) (flat_map (λ c. pages_below w (reads new) d (child_of c)) tops)
  pub once : IsOnce (flat_map (λ c. pages_below w (reads new) d (child_of c)) tops)
