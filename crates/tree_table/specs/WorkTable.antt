-- A table on trees in a store of pages: what it is there, and what is left of it by its calls.
use Rattle.std.specs.Prelude.{◌≡◌, ◌≢◌, ℕ, Bool, true, false, List, length, IsTrue}
use Rattle.sector_disk.specs.Disk.{Grew}
use Rattle.page_store.specs.Marks.{free_count}
use Rattle.page_store.specs.Store.{Store, reads, StoreWorks, IsUnchanged}
use Rattle.position_pack.specs.declared.kind.PackingKind.{PackingKind}
use Rattle.position_pack.specs.declared.kind.PackingKind.TheVariants.{Bytes}
use Rattle.retrograde.specs.Stored.{Stored}
use Rattle.retrograde.specs.Changes.{counts_of}
use Rattle.table.specs.declared.fault.TableFault.{TableFault}
use Rattle.table.specs.declared.fault.TableFault.TheVariants.{Disk, Damaged, TableFull, OutOfMemory, Closed}
use Rattle.btree.specs.Page.{Item}
use Rattle.btree.specs.Changes.{AreHeld}
use Rattle.btree.specs.Entries.{put_entry}
use Rattle.tree_table.specs.declared.slot.TreeSlot.{TreeSlot}
use Rattle.tree_table.specs.declared.tree.Tree.{Tree}
use Rattle.tree_table.specs.Trees.{with_at}
use Rattle.tree_table.specs.Entries.{AreEntriesOf}
use Rattle.tree_table.specs.Forest.{IsForest}
use Rattle.tree_table.specs.Spelled.{table_in}

-- in this store the slot names the pages of this text and of four trees with these entries
pub record HasForest (slot : TreeSlot) (text : List ℕ) (entries : Tree → List Item) (store : Store) : Type 0 where
  pub text_pages : List ℕ
  pub pages : Tree → List ℕ
  pub forest : IsForest slot.sizes.packed (length store.marks) slot.first slot.roots text text_pages pages entries (reads store)

-- and the trees are those of this table, which the slot counts right: so much is needed to read it
pub record HasTable (slot : TreeSlot) (text : List ℕ) (table : Stored (List ℕ)) (store : Store) : Type 0 where
  pub entries : Tree → List Item
  pub forest : HasForest slot text entries store
  pub spelled : AreEntriesOf slot.sizes entries table
  pub counts : counts_of table ≡ slot.sizes.counts

-- in this store the slot names the pages of this text and of four trees with these entries, and they are in use
pub record HoldsForest (slot : TreeSlot) (text : List ℕ) (entries : Tree → List Item) (store : Store) : Type 0 where
  pub text_pages : List ℕ
  pub pages : Tree → List ℕ
  pub forest : IsForest slot.sizes.packed (length store.marks) slot.first slot.roots text text_pages pages entries (reads store)
  pub text_held : AreHeld store.marks text_pages
  pub held : (t : Tree) → AreHeld store.marks (pages t)

-- and the trees are those of this table, which the slot counts right
pub record HoldsTable (slot : TreeSlot) (text : List ℕ) (table : Stored (List ℕ)) (store : Store) : Type 0 where
  pub entries : Tree → List Item
  pub forest : HoldsForest slot text entries store
  pub spelled : AreEntriesOf slot.sizes entries table
  pub counts : counts_of table ≡ slot.sizes.counts

-- what is in use is there
abbrev pub forest_there : (slot : TreeSlot) (text : List ℕ) (entries : Tree → List Item) (store : Store) → HoldsForest slot text entries store
    → HasForest slot text entries store
forest_there slot text entries store h = record { text_pages = h.text_pages; pages = h.pages; forest = h.forest }

abbrev pub table_there : (slot : TreeSlot) (text : List ℕ) (table : Stored (List ℕ)) (store : Store) → HoldsTable slot text table store
    → HasTable slot text table store
table_there slot text table store h =
    record { entries = h.entries; forest = forest_there slot text h.entries store h.forest; spelled = h.spelled; counts = h.counts }

-- these entries, with this value at this key of this tree
abbrev pub with_entry : (Tree → List Item) → Tree → List ℕ → List ℕ → Tree → List Item
with_entry entries tree key value = with_at entries tree (put_entry (entries tree) key value)

-- a table at work: what its slot says, the game's text, whether a call that writes has stopped half way, and its pages
pub record Work : Type 0 where
  pub slot : TreeSlot
  pub text : List ℕ
  pub torn : Bool
  pub store : Store

-- the table at work of these parts
abbrev pub work_of : TreeSlot → List ℕ → Bool → Store → Work
work_of s x b p = record { slot = s; text = x; torn = b; store = p }

-- the table that it has come to
abbrev pub table_now : Work → Stored (List ℕ)
table_now work = table_in work.slot (reads work.store)

abbrev pub work_there : (work : Work) → HoldsTable work.slot work.text (table_now work) work.store
    → HasTable work.slot work.text (table_now work) work.store
work_there work h = table_there work.slot work.text (table_now work) work.store h

-- its disk keeps to its word, and no call that writes has stopped half way
pub record IsHonestWork (work : Work) : Type 0 where
  pub disk : IsTrue work.store.disk.honest
  pub whole : work.torn ≡ false

-- its pages hold the table that it has come to
abbrev pub HoldsWork : Work → Type 0
HoldsWork work = HoldsTable work.slot work.text (table_now work) work.store

-- after calls that only read: nothing changed
pub record WorkStays (old new : Work) : Type 0 where
  pub works : StoreWorks old.store new.store
  pub unchanged : IsUnchanged old.store new.store
  pub slot : new.slot ≡ old.slot
  pub text : new.text ≡ old.text
  pub torn : new.torn ≡ old.torn

-- after calls that were answered: nothing is committed, the store is as open as it was, the text is the same and as long as the slot
-- says, so are the packing and the goal, and pages that held the table hold what it has come to
pub record WorkGoesOn (old new : Work) : Type 0 where
  pub works : StoreWorks old.store new.store
  pub still : new.store.closed ≡ old.store.closed
  pub text : new.text ≡ old.text
  pub torn : new.torn ≡ old.torn
  pub long : new.slot.sizes.text ≡ old.slot.sizes.text
  pub packing : new.slot.packing ≡ old.slot.packing
  pub goal : new.slot.goal ≡ old.slot.goal
  pub holds : IsHonestWork old → HoldsWork old → HoldsWork new

-- why a call gives no answer: the disk failed; what was there is no honest table; no page is free; memory is short, or a
-- position has not as many bytes as the others; the store was closed
abbrev pub NoAnswerCause : Work → Work → TableFault → Type 0
NoAnswerCause old new Disk = Grew old.store.failures new.store.failures
NoAnswerCause old new Damaged = ¬ (IsHonestWork old × HoldsWork old)
NoAnswerCause old new TableFull = free_count new.store.marks ≡ 0
NoAnswerCause old new OutOfMemory = Unit {0}
NoAnswerCause old new Closed = old.store.closed ≡ true

-- then nothing is committed either, the text is the same, and only a disk that failed closes the store
pub record WorkFails (old new : Work) (fault : TableFault) : Type 0 where
  pub works : StoreWorks old.store new.store
  pub still : fault ≢ Disk → new.store.closed ≡ old.store.closed
  pub text : new.text ≡ old.text
  pub cause : NoAnswerCause old new fault

-- the slot of a text of this many bytes, from this page on, and of no position; positions have this packing and this many bytes, and the goal
-- this number
abbrev pub text_slot : PackingKind → ℕ → ℕ → ℕ → ℕ → TreeSlot
text_slot kind goal first text n = record {
  packing = kind;
  goal = goal;
  first = first;
  sizes = record { text = text; packed = n; counts = record { known = 0; expanded = 0; settled = 0; processed = 0 }; edges = 0 };
  roots = record { positions = 0; records = 0; edges = 0; order = 0 };
}

-- the slot that names no page, for positions of this many bytes
abbrev pub bare_slot : ℕ → TreeSlot
bare_slot n = text_slot Bytes 0 0 0 n
