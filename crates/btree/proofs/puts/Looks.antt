-- A put after the map was read.
use Rattle.std.proofs.Common.{◌≡◌, ◌⊎◌, ℕ, List, Contains, sym, ◌∙◌, ap, subst}
use Rattle.sector_disk.specs.lemmas.Moments.{still_honest}
use Rattle.page_store.specs.declared.fault.PageFault.{PageFault}
use Rattle.page_store.specs.declared.fault.PageFault.TheVariants.{Disk, NotATable, Damaged, TableFull, OutOfMemory, Closed}
use Rattle.page_store.specs.declared.marks.Mark.{Mark}
use Rattle.page_store.specs.declared.marks.Mark.TheVariants.{Free}
use Rattle.page_store.specs.Frames.{PagesRead}
use Rattle.page_store.specs.Marks.{mark, let_go}
use Rattle.page_store.specs.Store.{Store}
use Rattle.btree.specs.declared.page.widths.Widths.{Widths}
use Rattle.btree.specs.Changes.{MapPutCause, MapReadCause, TakePlace}
use Rattle.btree.specs.lemmas.Unchanged.{grew_before, unchanged_holds, unchanged_reads}

-- what takes the place of pages after a read takes it since before
pub take_since : {old mid new : Store} {a b : List ℕ} → PagesRead old mid → TakePlace a b mid new → TakePlace a b old new
take_since {old} {mid} {new} {a} {b} read change = record {
  held = change.held;
  from = λ p here. subst (λ (ms : List Mark). Contains a p ⊎ (mark ms p ≡ Free)) read.unchanged.marks (change.from p here);
  gone = λ p here none. change.gone p here none ∙ ap (λ (ms : List Mark). let_go (mark ms p)) read.unchanged.marks;
  kept = λ p none also. change.kept p none also ∙ ap (λ (ms : List Mark). mark ms p) read.unchanged.marks;
  reads = λ honest p none used.
      change.reads (still_honest read.works.goes_on honest) p none
      (λ free. used (ap (λ (ms : List Mark). mark ms p) (sym read.unchanged.marks) ∙ free))
      ∙ ap (λ (f : ℕ → List ℕ). f p) (unchanged_reads old mid honest read.unchanged);
}

-- a map that is not read is not put into
pub not_read : (w : Widths) (root : ℕ) (old new : Store) (fault : PageFault) → MapReadCause w root old new fault → MapPutCause w root old new fault
not_read w root old new Disk cause = cause
not_read w root old new NotATable cause = cause
not_read w root old new Damaged cause = cause
not_read w root old new TableFull cause = absurd cause
not_read w root old new OutOfMemory cause = cause
not_read w root old new Closed cause = cause

-- why nothing is put after a read is why nothing is put
pub not_put : (w : Widths) (root : ℕ) (old mid new : Store) → PagesRead old mid → (fault : PageFault) → MapPutCause w root mid new fault
    → MapPutCause w root old new fault
not_put w root old mid new read Disk cause = grew_before old.failures mid.failures new.failures read.works.failures cause
not_put w root old mid new read NotATable cause = cause
not_put w root old mid new read Damaged none = λ honest pages es holds.
    none (still_honest read.works.goes_on honest) pages es (unchanged_holds w old mid root pages es honest read.unchanged holds)
not_put w root old mid new read TableFull cause = cause
not_put w root old mid new read OutOfMemory cause = cause
not_put w root old mid new read Closed closed = sym read.unchanged.closed ∙ closed
