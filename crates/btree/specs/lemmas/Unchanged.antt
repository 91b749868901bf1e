-- Reads leave a store as it was, and a map where it was.
use Rattle.std.specs.Prelude.{◌≡◌, ℕ, ◌≤◌, List, length, IsTrue}
use Rattle.std.proofs.Common.{refl, sym, ◌∙◌, ap, subst, inl, inr, arith}
use Rattle.sector_disk.specs.Disk.{Grew, Shown, MayLeave}
use Rattle.sector_disk.specs.lemmas.Moments.{still_honest, leaves_now, leaves_then, leaves_more}
use Rattle.page_store.specs.declared.fault.PageFault.{PageFault}
use Rattle.page_store.specs.declared.fault.PageFault.TheVariants.{Disk, NotATable, Damaged, TableFull, OutOfMemory, Closed}
use Rattle.page_store.specs.declared.marks.Mark.{Mark}
use Rattle.page_store.specs.Page.{page}
use Rattle.page_store.specs.Store.{Store, reads, StoreWorks, IsUnchanged}
use Rattle.btree.specs.declared.page.widths.Widths.{Widths}
use Rattle.btree.specs.Page.{Item}
use Rattle.btree.specs.Changes.{HoldsMap, MapReadCause}
use Rattle.btree.specs.Tree.{IsMap}

pub unchanged_refl : (store : Store) → IsUnchanged store store
unchanged_refl store = record {
  root = refl;
  marks = refl;
  closed = refl;
  shown = λ honest. refl;
  failed_writes = refl;
  leaves = λ honest. leaves_now store.disk (λ image left. left);
  holds = refl;
}

-- a store that is as it was
pub unchanged_same : {old new : Store} → new ≡ old → IsUnchanged old new
unchanged_same {old} same = subst (λ (s : Store). IsUnchanged old s) (sym same) (unchanged_refl old)

pub unchanged_then : {old mid new : Store} → StoreWorks old mid → StoreWorks mid new → IsUnchanged old mid → IsUnchanged mid new
    → IsUnchanged old new
unchanged_then one two first second = record {
  root = second.root ∙ first.root;
  marks = second.marks ∙ first.marks;
  closed = second.closed ∙ first.closed;
  failed_writes = second.failed_writes ∙ first.failed_writes;
  shown = λ honest. second.shown (still_honest one.goes_on honest) ∙ first.shown honest;
  leaves = λ honest.
      leaves_then two.goes_on (first.leaves honest)
      (leaves_more (λ image left. subst (λ (s : Shown). MayLeave s image) (first.shown honest) left)
      (second.leaves (still_honest one.goes_on honest)));
  holds = second.holds ∙ first.holds;
}

-- each page reads as it did
pub unchanged_reads : (old new : Store) → IsTrue old.disk.honest → IsUnchanged old new → reads new ≡ reads old
unchanged_reads old new honest same = ap (λ (s : Shown). λ (p : ℕ). page s.contents p) (same.shown honest)

pub unchanged_holds : (w : Widths) (old new : Store) (root : ℕ) (pages : List ℕ) (es : List Item) → IsTrue old.disk.honest
    → IsUnchanged old new → HoldsMap w old root pages es → HoldsMap w new root pages es
unchanged_holds w old new root pages es honest same holds =
    subst (λ (ms : List Mark). IsMap w (length ms) root pages es (reads new)) (sym same.marks)
    (subst (λ (bytes : ℕ → List ℕ). IsMap w (length old.marks) root pages es bytes) (sym (unchanged_reads old new honest same)) holds)

pub grew_before : (old mid new : ℕ) → old ≤ mid → Grew mid new → Grew old new
grew_before old mid new later (inl grew) = inl (omega (arith, later, grew))
grew_before old mid new later (inr most) = inr most

-- why a map is not read after other reads is why it is not read
pub cause_before : (w : Widths) (root : ℕ) (old mid new : Store) → StoreWorks old mid → IsUnchanged old mid → (fault : PageFault)
    → MapReadCause w root mid new fault → MapReadCause w root old new fault
cause_before w root old mid new works same Disk grew = grew_before old.failures mid.failures new.failures works.failures grew
cause_before w root old mid new works same NotATable never = never
cause_before w root old mid new works same Damaged none =
    λ honest pages es holds. none (still_honest works.goes_on honest) pages es (unchanged_holds w old mid root pages es honest same holds)
cause_before w root old mid new works same TableFull never = never
cause_before w root old mid new works same OutOfMemory never = never
cause_before w root old mid new works same Closed closed = sym same.closed ∙ closed
