-- What the committed root of a store keeps on trees.
use Rattle.std.specs.Prelude.{◌≡◌, ◌⊎◌, ℕ, ◌≤◌, ◌^◌, List, [], length, Option, None, Some, Contains, IsTrue}
use Rattle.sector_disk.specs.Disk.{GoesOn}
use Rattle.page_store.specs.declared.marks.Mark.TheVariants.{Waiting}
use Rattle.page_store.specs.Marks.{mark, needs, is_past, IsNeeded}
use Rattle.page_store.specs.Store.{Store, StoreWorks, IsSafe, reads}
use Rattle.retrograde.specs.Changes.{counts_of}
use Rattle.retrograde.specs.Stored.{Stored, IsTable}
use Rattle.btree.specs.Page.{Item}
use Rattle.tree_table.specs.declared.slot.TreeSlot.{TreeSlot}
use Rattle.game_file.specs.Kept.{Kept}
use Rattle.tree_table.specs.declared.tree.Tree.{Tree}
use Rattle.tree_table.specs.Entries.{AreEntriesOf}
use Rattle.tree_table.specs.Forest.{IsForest}
use Rattle.tree_table.specs.Held.{KeepsOnPages}
use Rattle.tree_table.specs.Slot.{IsEmptyTreeSlot}
use Rattle.tree_table.specs.WorkTable.{HoldsTable, bare_slot}
use Rattle.game_file.specs.Fields.{layout_in, goal_numbered, HasPlaceFor, SaysPages}
use Rattle.position_pack.specs.declared.limits.TheConstants.{MAX_PACKED}
use Rattle.rbg_game.specs.declared.limits.TheConstants.{MAX_POINTS, MAX_TEXT_BYTES}
use Rattle.page_store.specs.declared.limits.TheConstants.{MIN_PAGES}

-- it is a page of the text, or of one of the trees
abbrev pub IsOneOf : List ℕ → (Tree → List ℕ) → ℕ → Type 0
IsOneOf text_pages pages p = Contains text_pages p ⊎ ((t : Tree) × Contains (pages t) p)

-- the slot and these pages spell this table, or an empty one
abbrev pub KeepsOn : List ℕ → (Tree → List ℕ) → List ℕ → ℕ → Option Kept → (ℕ → List ℕ) → Type 0
KeepsOn text_pages pages root capacity None bytes = IsEmptyTreeSlot root
KeepsOn text_pages pages root capacity (Some kept) bytes = KeepsOnPages root capacity kept text_pages pages bytes

-- the committed root and pages that it needs spell this text and table, or that no game is loaded
pub record IsKeptInTrees (store : Store) (kept : Option Kept) : Type 0 where
  pub text_pages : List ℕ
  pub pages : Tree → List ℕ
  pub keeps : KeepsOn text_pages pages store.root (length store.marks) kept (reads store)
  pub needed : (p : ℕ) → IsOneOf text_pages pages p → IsNeeded store.marks p

-- as the store was begun with, its root kept the one, on an honest disk; since then nothing was committed, and now its pages hold
-- the other, which this slot names and counts, with its packing and goal, whose parts fit together, and which is no larger than a table may
-- be. The layout of the root has a place for the goal, and the root says how many pages there are if its layout says so at all
pub record IsWorkedOn (slot : TreeSlot) (begun now : Store) (was : Option Kept) (is : Kept) : Type 0 where
  pub honest : IsTrue begun.disk.honest
  pub safe : IsSafe begun
  pub kept : IsKeptInTrees begun was
  pub says : SaysPages begun.root (length begun.marks)
  pub enough : MIN_PAGES ≤ length begun.marks
  pub works : StoreWorks begun now
  pub holds : HoldsTable slot is.text is.table now
  pub packing : is.packing ≡ slot.packing
  pub goal : is.goal ≡ goal_numbered slot.goal
  pub place : HasPlaceFor (layout_in begun.root) slot.goal
  pub points : slot.goal ≤ MAX_POINTS
  pub text : length is.text ≡ slot.sizes.text
  pub table : IsTable is.table
  pub short : slot.sizes.text ≤ MAX_TEXT_BYTES
  pub packed : slot.sizes.packed ≤ MAX_PACKED
  pub some : 1 ≤ slot.sizes.packed
  pub few : slot.sizes.counts.known ≤ 2 ^ 24

-- a later state of the same store: the root, and the pages that it needs, are as they were
pub record IsStill (old new : Store) : Type 0 where
  pub goes_on : GoesOn old.disk new.disk
  pub root : new.root ≡ old.root
  pub same_pages : length new.marks ≡ length old.marks
  pub needed : (p : ℕ) → needs (mark new.marks p) ≡ needs (mark old.marks p)
  pub waiting : (p : ℕ) → mark new.marks p ≡ Waiting → mark old.marks p ≡ Waiting
  pub past : (p : ℕ) → IsTrue (is_past (mark new.marks p)) → IsTrue (is_past (mark old.marks p))
  pub reads : IsTrue old.disk.honest → (p : ℕ) → IsNeeded old.marks p → reads new p ≡ reads old p

-- the pages that this slot names hold this text and a table, which it counts right, and the committed root needs each of them
pub record StandsInTrees (slot : TreeSlot) (text : List ℕ) (store : Store) : Type 0 where
  pub table : Stored (List ℕ)
  pub text_pages : List ℕ
  pub pages : Tree → List ℕ
  pub entries : Tree → List Item
  pub forest : IsForest slot.sizes.packed (length store.marks) slot.first slot.roots text text_pages pages entries (reads store)
  pub spelled : AreEntriesOf slot.sizes entries table
  pub counts : counts_of table ≡ slot.sizes.counts
  pub needed : (p : ℕ) → IsOneOf text_pages pages p → IsNeeded store.marks p

-- what stands for the game that is loaded; where none is, no text does
abbrev pub StandsFor : Option TreeSlot → List ℕ → Store → Type 0
StandsFor None text store = text ≡ []
StandsFor (Some slot) text store = StandsInTrees slot text store

-- lengths, counts and a goal that a table may have
pub record IsSizedSlot (slot : TreeSlot) : Type 0 where
  pub some : 1 ≤ slot.sizes.packed
  pub short : slot.sizes.packed ≤ MAX_PACKED
  pub few : slot.sizes.counts.known ≤ 2 ^ 24
  pub points : slot.goal ≤ MAX_POINTS

-- the slot of the game that is loaded, if one is, has a size within the limits
abbrev pub AreSized : Option TreeSlot → Type 0
AreSized None = Unit {0}
AreSized (Some slot) = IsSizedSlot slot

-- the slot of a table with a game, or the one that names no page
abbrev pub slot_or_bare : Option TreeSlot → TreeSlot
slot_or_bare None = bare_slot 1
slot_or_bare (Some slot) = slot

-- no game is loaded, and one can be: the disk is honest, a stop leaves what is there, and there are 16 pages or more, as the root says if
-- its layout says so at all
pub record IsVacant (store : Store) : Type 0 where
  pub honest : IsTrue store.disk.honest
  pub safe : IsSafe store
  pub kept : IsKeptInTrees store None
  pub says : SaysPages store.root (length store.marks)
  pub enough : MIN_PAGES ≤ length store.marks
