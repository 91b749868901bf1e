-- What a page says of a key, and why it is not seen.
use Rattle.std.specs.Prelude.{◌≡◌, ◌⊎◌, ℕ, ◌≤◌, true, List, Option, length, IsTrue}
use Rattle.sector_disk.specs.Disk.{Grew}
use Rattle.page_store.specs.declared.fault.PageFault.{PageFault}
use Rattle.page_store.specs.declared.fault.PageFault.TheVariants.{Disk, Damaged, Closed}
use Rattle.page_store.specs.Store.{Store, reads}
use Rattle.btree.specs.declared.page.kind.Kind.{Kind}
use Rattle.btree.specs.declared.page.kind.Kind.TheVariants.{Leaf, Inner}
use Rattle.btree.specs.declared.page.widths.Widths.{Widths}
use Rattle.btree.specs.Page.{items_in, IsPage}
use Rattle.btree.specs.Entries.{Ascend, find_entry}
use Rattle.arrayvec.specs.ArrayVec.{ArrayVec}
use Rattle.btree.specs.Answers.{filled_bytes}
use Rattle.btree.specs.lemmas.Steps.{IsStepDown}
use Rattle.btree.specs.declared.find.look.Seen.{Seen}
use Rattle.btree.specs.declared.find.look.Seen.TheVariants.{Value, Child}

-- an inner page with these bytes leads to this child, whichever key is after it
abbrev pub LeadsOn : Widths → List ℕ → List ℕ → ℕ → Type 0
LeadsOn w bytes key child = (next : Option (List ℕ)) × IsStepDown w bytes key child next

-- a leaf gives the value at the key, which fills the buffer, and an inner page the child where the key belongs
abbrev pub Sees : Widths → List ℕ → List ℕ → ArrayVec ℕ → Seen → Type 0
Sees w bytes key into (Value found) = IsPage w Leaf bytes
    × (Ascend (items_in w Leaf bytes) → filled_bytes found into ≡ find_entry (items_in w Leaf bytes) key)
Sees w bytes key into (Child child) = IsPage w Inner bytes × LeadsOn w bytes key child

-- the disk failed; the page is not there, or none of a tree, as far as the disk is honest; or the store is closed
abbrev pub SeenCause : Widths → ℕ → Store → Store → PageFault → Type 0
SeenCause w page old new Disk = Grew old.failures new.failures
SeenCause w page old new Damaged = ((page ≡ 0) ⊎ (length old.marks ≤ page))
    ⊎ (IsTrue old.disk.honest → (kind : Kind) → IsPage w kind (reads old page) → ⊥)
SeenCause w page old new Closed = old.closed ≡ true
SeenCause w page old new _ = ⊥
