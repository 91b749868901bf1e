-- Pages are marked, one after another.
use Rattle.std.proofs.Common.{◌≡◌, ◌⊎◌, inl, inr, ℕ, IsTrue, sym, ◌∙◌, ap, subst}
use Rattle.std.proofs.lemmas.Bool.{cases_eq}
use Rattle.sector_disk.specs.Disk.{Shown, Disk, LeavesOnly, MayLeave}
use Rattle.sector_disk.specs.lemmas.Moments.{still_honest}
use Rattle.page_store.specs.declared.marks.Mark.TheVariants.{Committed}
use Rattle.page_store.specs.Marks.{mark, IsMarked}
use Rattle.page_store.specs.Page.{page}
use Rattle.page_store.specs.Store.{Store, reads, StoreWorks, IsUnchanged}
use Rattle.page_store.specs.lemmas.Works.{works_then}
use Rattle.page_store.specs.Frames.{OnlyMarks}

-- what a stop leaves where the disk was at first as it was
leaves_same : (old mid new : Disk) → mid ≡ old → (IsTrue mid.honest → LeavesOnly mid new (MayLeave mid.now)) → IsTrue old.honest
    → LeavesOnly old new (MayLeave old.now)
leaves_same old mid new same leaves honest = subst (λ (d : Disk). LeavesOnly d new (MayLeave d.now)) same
    (leaves (subst (λ (d : Disk). IsTrue d.honest) (sym same) honest))

-- one page is marked, and then read
pub marks_one : (at : ℕ) (old mid new : Store) → StoreWorks old mid → mid.disk ≡ old.disk → mid.closed ≡ old.closed → IsMarked at Committed old.marks mid.marks
    → StoreWorks mid new → IsUnchanged mid new → OnlyMarks old new
marks_one at old mid new marking disk closed marked reading same = record {
  works = works_then marking reading;
  shown = λ honest. same.shown (still_honest marking.goes_on honest) ∙ ap (λ (d : Disk). d.now) disk;
  leaves = leaves_same old.disk mid.disk new.disk disk same.leaves;
  closed = same.closed ∙ closed;
  others = each;
}
  where
    each : (p : ℕ) → (mark new.marks p ≡ mark old.marks p) ⊎ (mark new.marks p ≡ Committed)
    each p = elim (cases_eq p at) [
      | inl is ↦ inr ((λ i. mark (same.marks i) p) ∙ ap (mark mid.marks) is ∙ marked.is)
      | inr other ↦ inl ((λ i. mark (same.marks i) p) ∙ marked.others p other)
    ]

-- each page reads as it did
pub reads_marked : (old new : Store) → IsTrue old.disk.honest → OnlyMarks old new → reads new ≡ reads old
reads_marked old new honest marks = ap (λ (s : Shown). λ (p : ℕ). page s.contents p) (marks.shown honest)
