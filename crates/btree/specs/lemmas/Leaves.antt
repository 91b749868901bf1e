-- The leaf where a key belongs, and what a reader has after other reads.
use Rattle.std.specs.Prelude.{◌≡◌, ℕ, Bool, List, Option, Some, length, IsTrue}
use Rattle.std.proofs.Common.{subst}
use denote.Struct.Props.{props}
use Rattle.page_store.specs.declared.marks.Mark.{Mark}
use Rattle.page_store.specs.Store.{Store, reads, StoreWorks, IsUnchanged}
use Rattle.btree.specs.declared.page.kind.Kind.TheVariants.{Leaf}
use Rattle.btree.specs.declared.page.widths.Widths.{Widths}
use Rattle.btree.specs.declared.find.reader.Reader.{Reader}
use Rattle.btree.specs.Page.{Item, items_in}
use Rattle.btree.specs.Changes.{HoldsMap}
use Rattle.btree.specs.Entries.{find_entry}
use Rattle.btree.specs.Readers.{IsReading}
use Rattle.btree.specs.Tree.{IsMap}
use Rattle.btree.specs.lemmas.Unchanged.{unchanged_reads}
use Rattle.btree.specs.lemmas.Way.{BelongsHere}

-- in each map that the store holds below this root the key belongs on this leaf
abbrev pub IsLeafFor : Widths → Store → ℕ → List ℕ → List ℕ → Type 0
IsLeafFor w store root key leaf = (pages : List ℕ) (es : List Item) → HoldsMap w store root pages es
    → (next : Option (List ℕ)) × BelongsHere es key (items_in w Leaf leaf) next

-- a disk that is honest after calls was so before
pub honest_before : (old new : Store) → StoreWorks old new → IsTrue new.disk.honest → IsTrue old.disk.honest
honest_before old new works honest = subst (λ (b : Bool). IsTrue b) works.goes_on.honest honest

-- the map after reads is the one before
pub held_before : (w : Widths) (old new : Store) (root : ℕ) → IsUnchanged old new → StoreWorks old new → IsTrue new.disk.honest → (pages : List ℕ) (es : List Item)
    → HoldsMap w new root pages es → HoldsMap w old root pages es
held_before w old new root same works honest pages es holds =
    subst (λ (ms : List Mark). IsMap w (length ms) root pages es (reads old)) same.marks
    (subst (λ (bytes : ℕ → List ℕ). IsMap w (length new.marks) root pages es bytes) (unchanged_reads old new (honest_before old new works honest) same) holds)

-- what a reader has in memory is found in its map after other reads too
pub reading_stays : (reader : Reader) (old new : Store) → StoreWorks old new → IsUnchanged old new → IsReading reader old → IsReading reader new
reading_stays reader old new works same reading = λ honest page pages es holds.
    reading (honest_before old new works honest) page pages es (held_before reader.widths old new reader.root same works honest pages es holds)

answer_prop : (o p : Option (List ℕ)) → IsProp (o ≡ p)
answer_prop o p = hlevel props

-- that it is found there is a fact
pub reading_prop : (reader : Reader) (store : Store) → IsProp (IsReading reader store)
reading_prop reader store f g = λ i honest page pages es holds k item got.
    answer_prop (find_entry es item.0) (Some item.1) (f honest page pages es holds k item got) (g honest page pages es holds k item got) i
