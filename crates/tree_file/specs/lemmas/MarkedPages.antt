-- Pages are marked, and else the store stays as it was.
use Rattle.std.proofs.Common.{◌≡◌, inl, inr, ℕ, List, IsTrue, sym, ◌∙◌, ap}
use Rattle.sector_disk.specs.Disk.{Shown}
use Rattle.sector_disk.specs.lemmas.Moments.{still_honest}
use Rattle.page_store.specs.Frames.{OnlyMarks}
use Rattle.page_store.specs.declared.marks.Mark.TheVariants.{Committed, Waiting}
use Rattle.page_store.specs.Marks.{mark}
use Rattle.page_store.specs.Page.{page}
use Rattle.page_store.specs.Store.{Store, reads}
use Rattle.btree.specs.Walks.{MarksPages}
use Rattle.tree_table.specs.Forest.{AreApart}

-- the disk is honest still
pub honest_after : {old new : Store} → OnlyMarks old new → IsTrue old.disk.honest → IsTrue new.disk.honest
honest_after only honest = still_honest only.works.goes_on honest

-- each page reads as it did
pub reads_as_before : (old new : Store) → IsTrue old.disk.honest → OnlyMarks old new → reads new ≡ reads old
reads_as_before old new honest only = ap (λ (s : Shown). λ (p : ℕ). page s.contents p) (only.shown honest)

-- a page that is marked stays marked
pub stays_marked : {old new : Store} → OnlyMarks old new → (p : ℕ) → mark old.marks p ≡ Committed → mark new.marks p ≡ Committed
stays_marked only p was = elim (only.others p) [ inl same ↦ same ∙ was | inr is ↦ is ]

-- pages that wait later are apart from those that were marked earlier
pub later_apart : (ps qs : List ℕ) (old marked mid new : Store) → MarksPages ps old marked → OnlyMarks marked mid → MarksPages qs mid new
    → AreApart ps qs
later_apart ps qs old marked mid new first only second p here there =
    let is : mark mid.marks p ≡ Committed = stays_marked only p (first.marked p here) in
    let waits : mark mid.marks p ≡ Waiting = second.waited p there in
    absurd (let no : Committed ≡ Waiting = sym is ∙ waits in cc)

pub apart_turned : (ps qs : List ℕ) → AreApart ps qs → AreApart qs ps
apart_turned ps qs apart p here there = apart p there here
