-- One call after another.
use Rattle.std.proofs.Common.{◌≡◌, ℕ, Bool, List, length, IsTrue, refl, sym, ◌∙◌, ap, subst}
use mathlib.Core.Logic.{∥∥₁_elim}
use denote.Struct.Props.{props}
use Rattle.sector_disk.specs.lemmas.Moments.{still_honest}
use Rattle.page_store.specs.Marks.{free_count}
use Rattle.page_store.specs.Store.{Store, StoreWorks, reads}
use Rattle.page_store.specs.lemmas.Works.{works_refl, works_then}
use Rattle.retrograde.specs.declared.records.Counts.{Counts}
use Rattle.retrograde.specs.Stored.{Stored}
use Rattle.retrograde.specs.Changes.{counts_of}
use Rattle.table.specs.declared.fault.TableFault.{TableFault}
use Rattle.table.specs.declared.fault.TableFault.TheVariants.{Disk, Damaged, TableFull, OutOfMemory, Closed}
use Rattle.btree.specs.lemmas.Unchanged.{grew_before, unchanged_refl, unchanged_then, unchanged_reads}
use Rattle.page_store.specs.declared.marks.Mark.{Mark}
use Rattle.btree.specs.Page.{Item}
use Rattle.btree.specs.Changes.{AreHeld}
use Rattle.tree_table.specs.declared.slot.TreeSlot.{TreeSlot}
use Rattle.tree_table.specs.declared.tree.Tree.{Tree}
use Rattle.tree_table.specs.Forest.{IsForest}
use Rattle.tree_table.specs.Spelled.{table_in}
use Rattle.tree_table.specs.WorkTable.{Work, table_now, IsHonestWork, HoldsForest, HoldsTable, HoldsWork}
use Rattle.tree_table.specs.WorkTable.{WorkStays, WorkGoesOn, NoAnswerCause}
use Rattle.tree_table.specs.WorkTable.{WorkFails}

-- counts are four numbers
counts_prop : (a b : Counts) → IsProp (a ≡ b)
counts_prop a b = hlevel props

-- an honest table counts what is stored
pub counts_are : (work : Work) → ∥ HoldsWork work ∥₁ → work.slot.sizes.counts ≡ counts_of (table_now work)
counts_are work holds = ∥∥₁_elim holds (counts_prop work.slot.sizes.counts (counts_of (table_now work))) (λ (h : HoldsWork work). sym
    h.counts)

pub stays_here : (work : Work) → WorkStays work work
stays_here work = record { works = works_refl work.store; unchanged = unchanged_refl work.store; slot = refl; text = refl; torn = refl }

pub stays_then : {a b c : Work} → WorkStays a b → WorkStays b c → WorkStays a c
stays_then first second = record {
  works = works_then first.works second.works;
  unchanged = unchanged_then first.works second.works first.unchanged second.unchanged;
  slot = second.slot ∙ first.slot;
  text = second.text ∙ first.text;
  torn = second.torn ∙ first.torn;
}

-- what is only read leaves as many pages free
pub stays_free : {a b : Work} → WorkStays a b → free_count b.store.marks ≡ free_count a.store.marks
stays_free it = ap free_count it.unchanged.marks

-- where a call finds no page, none is free
pub full_free : {a b : Work} → WorkFails a b TableFull → free_count b.store.marks ≡ 0
full_free it = it.cause

-- what goes on is as honest as it was
pub honest_on : {a b : Work} → StoreWorks a.store b.store → b.torn ≡ a.torn → IsHonestWork a → IsHonestWork b
honest_on works torn honest = record { disk = still_honest works.goes_on honest.disk; whole = torn ∙ honest.whole }

pub honest_before : {a b : Work} → StoreWorks a.store b.store → b.torn ≡ a.torn → IsHonestWork b → IsHonestWork a
honest_before {a} {b} works torn honest = record {
  disk = subst (λ (x : Bool). IsTrue x) works.goes_on.honest honest.disk;
  whole = sym torn
      ∙ honest.whole;
}

-- pages that are as they were hold what they held
pub forest_still : (slot : TreeSlot) (text : List ℕ) (entries : Tree → List Item) (old new : Store) → new.marks ≡ old.marks
    → reads new ≡ reads old
    → HoldsForest slot text entries old → HoldsForest slot text entries new
forest_still slot text entries old new marks same h = record {
  text_pages = h.text_pages;
  pages = h.pages;
  forest =
      subst (λ (bytes : ℕ → List ℕ). IsForest slot.sizes.packed (length new.marks) slot.first slot.roots text h.text_pages h.pages entries
      bytes) (sym same)
      (subst (λ (ms : List Mark). IsForest slot.sizes.packed (length ms) slot.first slot.roots text h.text_pages h.pages entries (reads
      old)) (sym marks) h.forest);
  text_held = subst (λ (ms : List Mark). AreHeld ms h.text_pages) (sym marks) h.text_held;
  held = λ t. subst (λ (ms : List Mark). AreHeld ms (h.pages t)) (sym marks) (h.held t);
}

pub table_still : (slot : TreeSlot) (text : List ℕ) (table : Stored (List ℕ)) (old new : Store) → new.marks ≡ old.marks
    → reads new ≡ reads old
    → HoldsTable slot text table old → HoldsTable slot text table new
table_still slot text table old new marks same h =
    record {
      entries = h.entries;
      forest = forest_still slot text h.entries old new marks same h.forest;
      spelled = h.spelled;
      counts =
          h.counts;
    }

-- a table that was only read is the one that it was
pub table_same : (a b : Work) → WorkStays a b → IsTrue a.store.disk.honest → table_now b ≡ table_now a
table_same a b stays honest = λ i. table_in (stays.slot i) (unchanged_reads a.store b.store honest stays.unchanged i)

pub holds_still : (a b : Work) → WorkStays a b → IsTrue a.store.disk.honest → HoldsWork a → HoldsWork b
holds_still a b stays honest h =
    subst (λ (t : Stored (List ℕ)). HoldsTable b.slot b.text t b.store) (sym (table_same a b stays honest))
    (subst (λ (s : TreeSlot). HoldsTable s b.text (table_now a) b.store) (sym stays.slot)
    (subst (λ (x : List ℕ). HoldsTable a.slot x (table_now a) b.store) (sym stays.text)
    (table_still a.slot a.text (table_now a) a.store b.store stays.unchanged.marks (unchanged_reads a.store b.store honest stays.unchanged)
    h)))

pub stays_goes_on : {a b : Work} → WorkStays a b → WorkGoesOn a b
stays_goes_on {a} {b} it = record {
  works = it.works;
  still = it.unchanged.closed;
  text = it.text;
  torn = it.torn;
  long = ap (λ (s : TreeSlot). s.sizes.text) it.slot;
  packing = ap (λ (s : TreeSlot). s.packing) it.slot;
  goal = ap (λ (s : TreeSlot). s.goal) it.slot;
  holds = λ honest h.
      holds_still a b it honest.disk h;
}

pub goes_on_then : {a b c : Work} → WorkGoesOn a b → WorkGoesOn b c → WorkGoesOn a c
goes_on_then first second = record {
  works = works_then first.works second.works;
  still = second.still ∙ first.still;
  text = second.text ∙ first.text;
  torn = second.torn ∙ first.torn;
  long = second.long ∙ first.long;
  packing = second.packing ∙ first.packing;
  goal = second.goal ∙ first.goal;
  holds = λ honest h. second.holds (honest_on first.works first.torn honest) (first.holds honest h);
}

pub fails_since : {a b c : Work} (fault : TableFault) → WorkGoesOn a b → WorkFails b c fault → WorkFails a c fault
fails_since {a} {b} {c} fault first it = record {
  works = works_then first.works it.works;
  still = λ other. it.still other ∙ first.still;
  text = it.text ∙ first.text;
  cause = since fault it.cause;
}
  where
    since : (f : TableFault) → NoAnswerCause b c f → NoAnswerCause a c f
    since Disk grew = grew_before a.store.failures b.store.failures c.store.failures first.works.failures grew
    since Damaged broken = λ is. broken (honest_on first.works first.torn is.0, first.holds is.0 is.1)
    since TableFull none = none
    since OutOfMemory cause = tt
    since Closed shut = sym first.still ∙ shut

-- want of memory
pub memory_fails : {a b : Work} → WorkGoesOn a b → WorkFails a b OutOfMemory
memory_fails ahead = record { works = ahead.works; still = λ other. ahead.still; text = ahead.text; cause = tt }
