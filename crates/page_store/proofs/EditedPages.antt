-- A page is edited where it stands.
use Rattle.std.proofs.Common.{◌≡◌, ℕ, Bool, true, false, List, Result, Ok, Err, refl, sym, ◌∙◌, subst}
use Rattle.std.specs.Prelude.{IsErr}
use Rattle.sector_disk.specs.Disk.{Image, Disk, Grew, HasCause}
use Rattle.sector_disk.specs.Pages.{IsPageEdited}
use Rattle.page_store.specs.declared.fault.PageFault.{PageFault}
use Rattle.page_store.specs.declared.fault.PageFault.TheVariants.{Disk as DiskFailed}
use Rattle.page_store.specs.declared.marks.Mark.{Mark}
use Rattle.page_store.specs.Causes.{PageWriteCause}
use Rattle.page_store.specs.Holds.{Holds}
use Rattle.page_store.specs.Page.{page as page_at}
use Rattle.page_store.specs.Store.{Store, store_of}
use Rattle.page_store.specs.lemmas.Edits.{EditsPage}
use Rattle.page_store.specs.lemmas.Works.{works_refl}
use Rattle.page_store.proofs.PageSectors.{sectors_read}

-- a store whose disk is as it was
pub same_store : {disk disk_new : Disk} {failures failures_new : ℕ} (root : List ℕ) (marks : List Mark) (closed : Bool) (holds : Holds) → disk_new ≡ disk
    → failures_new ≡ failures → store_of disk_new failures_new root marks closed holds ≡ store_of disk failures root marks closed holds
same_store root marks closed holds disks counts = λ i. store_of (disks i) (counts i) root marks closed holds

-- what was edited on the disk reads so
pub page_edited : (Edits : List ℕ → List ℕ → Type 0) (number : ℕ) (old new : Image) → IsPageEdited Edits number old new
    → Edits (page_at old number) (page_at new number)
page_edited Edits number old new edited =
    subst (λ (bs : List ℕ). Edits bs (page_at new number)) (sectors_read old number edited.was edited.had)
    (subst (λ (bs : List ℕ). Edits edited.was bs) (sectors_read new number edited.is edited.has) edited.edits)

-- nothing was edited
pub edits_none : (Edits : List ℕ → List ℕ → Type 0) (number : ℕ) (store : Store) → store.closed ≡ false → EditsPage Edits number store store (Ok false)
edits_none Edits number store open_ = record {
  edited = λ h is. absurd (cc);
  others = λ h p other. refl;
  left = λ is. refl;
  marks = refl;
  open_ = open_;
  untouched = tt;
  cause = tt;
  works = works_refl store;
}

-- a write was refused since the disk failed
pub failed_grew : {X E : Type 0} {before now : ℕ} (result : Result X E) (fault : E) → result ≡ Err fault → HasCause before now result → Grew before now
failed_grew {X} {E} result fault is cause = cause.grew (subst (λ (r : Result X E). IsErr r) (sym is) refl)

pub write_failed : (fault : PageFault) (before now : ℕ) (closed : Bool) → fault ≡ DiskFailed → Grew before now → closed ≡ true
    → (old new : Store) → old.failures ≡ before → new.failures ≡ now → new.closed ≡ closed → PageWriteCause old new fault
write_failed fault before now closed is grew shut old new was count same = subst (λ (f : PageFault). PageWriteCause old new f) (sym is)
    (subst (λ (n : ℕ). Grew n new.failures) (sym was) (subst (λ (n : ℕ). Grew before n) (sym count) grew), same ∙ shut)
