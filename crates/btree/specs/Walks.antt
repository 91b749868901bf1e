-- What a walk does to a store, and why a map is not walked.
use Rattle.std.specs.Prelude.{◌≡◌, ℕ, true, List, ◌∷◌, ◌++◌, Contains, IsTrue}
use Rattle.sector_disk.specs.Disk.{Grew}
use Rattle.page_store.specs.declared.fault.PageFault.TheVariants.{Disk, Damaged, Closed}
use Rattle.page_store.specs.declared.marks.Mark.TheVariants.{Committed}
use Rattle.page_store.specs.Marks.{mark}
use Rattle.page_store.specs.Pages.{AreWaiting}
use Rattle.page_store.specs.Store.{Store as StoreStated, reads}
use Rattle.btree.specs.declared.page.widths.Widths.{Widths}
use Rattle.btree.specs.Page.{Item}
use Rattle.btree.specs.Changes.{HoldsMap}
use Rattle.btree.specs.Tree.{entries_below}
use Rattle.btree.specs.declared.walk.fault.WalkFault.{WalkFault}
use Rattle.btree.specs.declared.walk.fault.WalkFault.TheVariants.{Store, Refused}

-- pages that waited are marked, and no others
pub record MarksPages (pages : List ℕ) (old new : StoreStated) : Type 0 where
  pub waited : AreWaiting pages old
  pub marked : (p : ℕ) → Contains pages p → mark new.marks p ≡ Committed
  pub kept : (p : ℕ) → ¬ Contains pages p → mark new.marks p ≡ mark old.marks p

-- a visitor that was told of `told` is then told of the first of these entries, up to one that it refuses
pub record IsRefusedAmong (refuses : List Item → Item → Type 0) (told es : List Item) : Type 0 where
  pub front : List Item
  pub entry : Item
  pub back : List Item
  pub is : es ≡ front ++ entry ∷ back
  pub refused : refuses (told ++ front) entry

-- the visitor, told of `told` before, refused one of the entries that stand below this root, and they are those of the
-- map, where there is one
pub record IsRefusedBelow (w : Widths) (root : ℕ) (refuses : List Item → Item → Type 0) (told : List Item)
    (store : StoreStated) : Type 0 where
  pub depth : ℕ
  pub refused : IsRefusedAmong refuses told (entries_below w (reads store) depth root)
  pub of_map : (pages : List ℕ) (es : List Item) → HoldsMap w store root pages es → es ≡ entries_below w (reads store) depth root

-- a map is not walked: the disk failed; below this root is no map on pages that wait, as far as the disk is honest; the
-- store is closed; or the visitor refused an entry, whatever it may have been told of before
abbrev pub WalkCause : Widths → ℕ → (List Item → Item → Type 0) → (List Item → Type 0) → StoreStated → StoreStated → WalkFault → Type 0
WalkCause w root refuses told old new (Store Disk) = Grew old.failures new.failures
WalkCause w root refuses told old new (Store Damaged) = IsTrue old.disk.honest → (pages : List ℕ) (es : List Item)
    → HoldsMap w old root pages es → AreWaiting pages old → ⊥
WalkCause w root refuses told old new (Store Closed) = old.closed ≡ true
WalkCause w root refuses told old new (Store _) = ⊥
WalkCause w root refuses told old new Refused =
    IsTrue old.disk.honest → (before : List Item) → told before → IsRefusedBelow w root refuses before old
