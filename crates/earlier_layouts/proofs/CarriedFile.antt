-- A commit carries a file of layout 1 into layout 3.
use Rattle.std.proofs.Common.{◌≡◌, ◌≢◌, ◌⊎◌, inl, inr, ℕ, ◌≤◌, true, false, List, length, Option, None, Some, Result, Ok, Err, Contains, IsTrue, refl, sym, ◌∙◌, ap, subst, arith}
use Rattle.std.specs.Prelude.{OnOk, IfOk, IfErr}
use Rattle.sector_disk.specs.Disk.{Image, Grew, LeavesOnly}
use Rattle.sector_disk.specs.lemmas.Moments.{goes_on_trans, leaves_more, leaves_then, reads_left, still_honest}
use Rattle.page_store.specs.declared.fault.PageFault.{PageFault}
use Rattle.page_store.specs.declared.fault.PageFault.TheVariants as page
use Rattle.page_store.specs.Causes.{StoreCommitCause}
use Rattle.page_store.specs.Spelled.{IsPrepared, Spells, Stands}
use Rattle.page_store.specs.Store.{Store, IsUnchanged, SameHeader, Saved, SavedAs, StopLeaves, StoreWorks, Commits}
use Rattle.page_store.specs.lemmas.Works.{grew_since, safe_saves, saved_before, works_then}
use Rattle.page_store.specs.lemmas.Carried.{commit_carries, saved_spells, saved_as_spells}
use Rattle.game_file.specs.Fields.{commits_in, layout_in, packing_in, number_of_packing, goal_numbered, SaysPages}
use Rattle.table.specs.InMemory.{stored_in}
use Rattle.earlier_layouts.specs.declared.game.Game.{Game}
use Rattle.earlier_layouts.specs.Calls.{file_of, state_of}
use Rattle.earlier_layouts.specs.File.{IsFile, kept_of, pages_of}
use Rattle.earlier_layouts.specs.Held.{KeepsTable, Stores}
use Rattle.earlier_layouts.specs.lemmas.StoredLaws.{spells_stores}
use Rattle.game_file.specs.declared.fault.FileFault.{FileFault}
use Rattle.game_file.specs.declared.fault.FileFault.TheVariants.{Disk as DiskFailed}
use Rattle.game_file.specs.declared.fault.FileFault.TheVariants as file
use Rattle.game_file.specs.Faults.{of_pages}
use Rattle.game_file.specs.State.{GoesFrom, count_behind}
use Rattle.game_file.specs.Stops.{LeavesNow, LeavesTable}
use Rattle.tree_table.specs.declared.slot.TreeSlot.{TreeSlot}
use Rattle.game_file.specs.Numbers.{AreWithinLimits}
use Rattle.tree_table.specs.Held.{KeepsTrees, StoresTrees}
use Rattle.tree_table.specs.KeptTrees.{IsOneOf, IsSizedSlot}
use Rattle.tree_table.specs.Slot.{slot_in, IsEmptyTreeSlot, IsGameTreeSlot}
use Rattle.tree_table.specs.WorkTable.{HoldsTable, text_slot}
use Rattle.tree_table.specs.lemmas.KeptPages.{spells_stores_trees, table_is_prepared}
use Rattle.tree_table.proofs.Limits.{within_limits}
use Rattle.earlier_layouts.specs.MoveCauses.{MoveCause}
use Rattle.tree_file.specs.MoveCauses.{IsMoved, IsNotMoved}
use Rattle.earlier_layouts.specs.lemmas.MovingSteps.{HasFrameOf, IsCopied, NewRootCause, StepCause}

-- a disk failure of the pages below is one of the file
disk_is_disk : (fault : PageFault) → of_pages fault ≢ DiskFailed → fault ≢ page.Disk
disk_is_disk fault other is = other (ap of_pages is)

-- a file of layout 1 that is whole and open
module _ (old : Store) (game : Option Game) (whole : IsFile (file_of old game)) (is_open : old.closed ≡ false) where
  stands : IsTrue old.disk.honest → Stands (λ p. Contains (pages_of game) p) (KeepsTable old.root (length old.marks) (kept_of game)) old
  stands honest = whole.backed.stands honest is_open

  stored : IsTrue old.disk.honest → (image : Image) → Saved old image → Stores (length old.marks) image (kept_of game)
  stored honest image saved =
      spells_stores old.root (length old.marks) (kept_of game) image whole.backed.room whole.sound.few
      (saved_spells old (stands honest) image saved)

  -- calls that commit nothing leave it
  works_leave : (new : Store) → StoreWorks old new → IsTrue old.disk.honest → LeavesTable (Stores (length old.marks)) old.disk new.disk (kept_of game)
  works_leave new works honest = leaves_more (stored honest) (works.leaves honest (whole.sound.safe honest is_open))

  pub works_not_moved : (new : Store) (fault : FileFault) → StoreWorks old new
      → IsNotMoved Stores (StoresTrees 3) (state_of (file_of old game)) new.disk new.failures fault
  works_not_moved new fault works = record {
    from = record { goes_on = works.goes_on; failures = works.failures; same_size = works.same_size };
    header = works.header;
    leaves = λ honest is_open other. works_leave new works honest;
    unwritten = λ honest is_open spared. works_leave new works honest;
    either = λ honest is_open. leaves_more (λ image left. inl left) (works_leave new works honest);
  }

  -- a root of layout 3 is committed after such calls
  module _ (root : List ℕ) (mid new : Store) (layout : layout_in root ≡ 3) (says : SaysPages root (length old.marks)) (works : StoreWorks old mid)
      (commits : Commits root mid new) where
    from : GoesFrom old.disk old.failures new.disk new.failures
    from = record {
      goes_on = goes_on_trans works.goes_on commits.goes_on;
      failures = omega (arith, works.failures, commits.failures);
      same_size = commits.same_size ∙ works.same_size;
    }

    same_header : SameHeader old.disk new.disk
    same_header honest = commits.header (still_honest works.goes_on honest) ∙ works.header honest

    each : IsTrue old.disk.honest → (image : Image)
        → Spells old.root (length old.marks) (KeepsTable old.root (length old.marks) (kept_of game)) image
        ⊎ Spells root (length old.marks) (KeepsTrees root (length old.marks) (kept_of game)) image
        → Stores (length old.marks) image (kept_of game) ⊎ StoresTrees 3 (length old.marks) image (kept_of game)
    each honest image (inl spells) = inl (spells_stores old.root (length old.marks) (kept_of game) image whole.backed.room whole.sound.few spells)
    each honest image (inr spells) =
        inr (spells_stores_trees root 3 (length old.marks) (kept_of game) image layout says whole.backed.room whole.sound.few spells)

    either : {named : ℕ → Type 0} → IsTrue old.disk.honest → IsPrepared named (KeepsTrees root (length old.marks) (kept_of game)) mid
        → LeavesOnly old.disk new.disk (λ image. Stores (length old.marks) image (kept_of game) ⊎ StoresTrees 3 (length old.marks) image (kept_of game))
    either honest prepared =
        leaves_more (each honest)
        (commit_carries root old mid new honest (whole.sound.safe honest is_open) (stands honest) works prepared commits).stop

    now : {named : ℕ → Type 0} → IsTrue old.disk.honest → IsPrepared named (KeepsTrees root (length old.marks) (kept_of game)) mid
        → StopLeaves new (SavedAs root mid) → LeavesNow (StoresTrees 3 (length old.marks)) new.disk (kept_of game)
    now honest prepared after image left =
        spells_stores_trees root 3 (length old.marks) (kept_of game) image layout says whole.backed.room whole.sound.few
        (subst (λ (n : ℕ). Spells root n (KeepsTrees root (length old.marks) (kept_of game)) image) works.same_pages
        (saved_as_spells root mid prepared image (after image left)))

    refused_leaves : (fault : PageFault) → (fault ≢ page.Disk → new ≡ mid) → IsTrue old.disk.honest → of_pages fault ≢ DiskFailed
        → LeavesTable (Stores (length old.marks)) old.disk new.disk (kept_of game)
    refused_leaves fault same honest other =
        subst (λ (s : Store). LeavesTable (Stores (length old.marks)) old.disk s.disk (kept_of game)) (sym (same (disk_is_disk fault other)))
        (works_leave mid works honest)

    -- a commit that left the store as it was leaves the table as it was
    unchanged_leaves : IsUnchanged mid new → IsTrue old.disk.honest → LeavesTable (Stores (length old.marks)) old.disk new.disk (kept_of game)
    unchanged_leaves same honest =
        let safe = whole.sound.safe honest is_open in
        let later = still_honest works.goes_on honest in
        leaves_more (stored honest)
        (leaves_then commits.goes_on (works.leaves honest safe)
        (leaves_more (λ image left. saved_before works honest image (safe_saves mid (works.safe honest safe) image left)) (same.leaves later)))

    -- so does one in which no write failed
    unwritten_leaves : (fault : PageFault) → StoreCommitCause mid new fault → mid.closed ≡ old.closed
        → ¬ Grew old.disk.failed_writes new.disk.failed_writes → IsTrue old.disk.honest
        → LeavesTable (Stores (length old.marks)) old.disk new.disk (kept_of game)
    unwritten_leaves fault cause still spared honest = unchanged_leaves (at fault cause) honest
      where
        at : (f : PageFault) → StoreCommitCause mid new f → IsUnchanged mid new
        at page.Disk cause = elim cause.1 [
          | inl unchanged ↦ unchanged
          | inr shut ↦ absurd (spared (grew_since works.goes_on.failed_writes (commits.closes.cause (still ∙ is_open) shut)))
        ]
        at page.NotATable cause = absurd cause
        at page.Damaged cause = absurd cause
        at page.TableFull cause = absurd cause
        at page.OutOfMemory cause = absurd cause
        at page.Closed cause = let never : true ≡ false = sym cause ∙ still ∙ is_open in absurd (cc)

    -- what the new root keeps is prepared on these pages
    module _ (named : IsTrue old.disk.honest → ℕ → Type 0)
        (prepared : (honest : IsTrue old.disk.honest) → IsPrepared (named honest) (KeepsTrees root (length old.marks) (kept_of game)) mid) where
      pub moved : commits_in root ≡ count_behind (commits_in old.root) → (IsTrue mid.disk.honest → StopLeaves new (SavedAs root mid))
          → IsMoved Stores (StoresTrees 3) (state_of (file_of old game)) new.disk new.failures
      moved count after = record {
        from = from;
        header = same_header;
        leaves = λ honest. either honest (prepared honest);
        now = λ honest. now honest (prepared honest) (after (still_honest works.goes_on honest));
        commits = λ honest. record {
          root = root;
          holds = (after (still_honest works.goes_on honest) new.disk.now.contents (reads_left new.disk)).holds;
          commits = count;
        };
      }

      pub not_moved : (fault : PageFault) → (fault ≢ page.Disk → new ≡ mid) → StoreCommitCause mid new fault → mid.closed ≡ old.closed
          → IsNotMoved Stores (StoresTrees 3) (state_of (file_of old game)) new.disk new.failures (of_pages fault)
      not_moved fault same cause still = record {
        from = from;
        header = same_header;
        leaves = λ honest is_open other. refused_leaves fault same honest other;
        unwritten = λ honest is_open spared. unwritten_leaves fault cause still spared honest;
        either = λ honest is_open. either honest (prepared honest);
      }

-- no page is needed for the table of no game
pub none_prepared : (root : List ℕ) (capacity : ℕ) (store : Store) → IsEmptyTreeSlot root → IsPrepared (λ p. ⊥) (KeepsTrees root capacity None) store
none_prepared root capacity store empty = record { spelled = record { anywhere = λ other same. empty }; kept = λ p here. absurd here }

-- the slot of the game
game_slot_is : (root : List ℕ) (slot : TreeSlot) (old mid : Store) (game : Game) → IsCopied slot old game mid → IsTrue old.disk.honest
    → packing_in root ≡ number_of_packing slot.packing → slot_in root ≡ slot → IsGameTreeSlot root game.packing None
game_slot_is root slot old mid game copied honest packing is =
    let limits : AreWithinLimits slot.sizes = within_limits (stored_in game.table) slot.sizes copied.whole.games.fits.table (copied.holds honest).counts
    (omega (arith, copied.text, copied.whole.games.text)) copied.sized.short copied.sized.few in
    record {
      packing = packing ∙ ap number_of_packing copied.packing;
      goal = ap (λ (s : TreeSlot). goal_numbered s.goal) is ∙ ap goal_numbered copied.goal;
      points = omega (arith, copied.goal, ap (λ (s : TreeSlot). s.goal) is);
      limits = subst (λ (s : TreeSlot). AreWithinLimits s.sizes) (sym is) limits;
      some = subst (λ (s : TreeSlot). 1 ≤ s.sizes.packed) (sym is) copied.sized.some;
    }

-- the table that was copied is prepared
module _ (root : List ℕ) (slot : TreeSlot) (old mid : Store) (game : Game) (copied : IsCopied slot old game mid)
    (packing : packing_in root ≡ number_of_packing slot.packing) (is : slot_in root ≡ slot) where
  pub game_pages : IsTrue old.disk.honest → ℕ → Type 0
  game_pages honest = let h = copied.holds honest in IsOneOf h.forest.text_pages h.forest.pages

  pub game_prepared : (honest : IsTrue old.disk.honest)
      → IsPrepared (game_pages honest) (KeepsTrees root (length old.marks) (kept_of (Some game))) mid
  unfolding game_pages
  game_prepared honest =
      table_is_prepared root slot game.text.items game.packing None (stored_in game.table) mid
      (game_slot_is root slot old mid game copied honest packing is) is (sym copied.text) copied.whole.games.fits.table (copied.holds honest)
      (length old.marks) (sym copied.works.same_pages)

-- a text is written, and then a table beside it
pub game_copied : (slot is : TreeSlot) (old mid new : Store) (game : Game) (text : List ℕ) → IsFile (file_of old (Some game)) → old.closed ≡ false
    → text ≡ game.text.items → slot ≡ text_slot game.packing 0 slot.first (length text) game.packed → StoreWorks old mid → mid.closed ≡ old.closed
    → StoreWorks mid new → new.closed ≡ mid.closed → (IsTrue mid.disk.honest → HoldsTable is game.text.items (stored_in game.table) new)
    → HasFrameOf is slot → IsSizedSlot is → IsCopied is old game new
game_copied slot is old mid new game text whole is_open same slot_is wrote still copies still_then holds frame sized = record {
  whole = whole;
  is_open = is_open;
  works = works_then wrote copies;
  still = still_then ∙ still;
  holds = λ honest. holds (still_honest wrote.goes_on honest);
  packing = frame.packing ∙ ap (λ (s : TreeSlot). s.packing) slot_is;
  goal = frame.goal ∙ ap (λ (s : TreeSlot). s.goal) slot_is;
  text = frame.text ∙ ap (λ (s : TreeSlot). s.sizes.text) slot_is ∙ ap length same;
  sized = sized;
}

-- why a root is not committed
pub root_cause : (old new : Store) (fault : PageFault) → StoreCommitCause old new fault → NewRootCause old new (of_pages fault)
root_cause old new page.Disk cause = cause.0
root_cause old new page.NotATable cause = absurd cause
root_cause old new page.Damaged cause = absurd cause
root_cause old new page.TableFull cause = absurd cause
root_cause old new page.OutOfMemory cause = absurd cause
root_cause old new page.Closed cause = cause

-- why a table is not moved: a step fails after others
pub step_moves : (old mid new : Store) (game : Game) (fault : FileFault) → old.closed ≡ false → StoreWorks old mid → mid.closed ≡ old.closed
    → StepCause mid new fault → MoveCause (state_of (file_of old (Some game))) new.failures fault
step_moves old mid new game file.Disk is_open works still cause = grew_since works.failures cause
step_moves old mid new game file.NotATable is_open works still cause = absurd cause
step_moves old mid new game file.AlreadyATable is_open works still cause = absurd cause
step_moves old mid new game file.Damaged is_open works still cause = λ honest. cause (still_honest works.goes_on honest)
step_moves old mid new game file.OldLayout is_open works still cause = absurd cause
step_moves old mid new game file.TooSmall is_open works still cause = absurd cause
step_moves old mid new game file.TableFull is_open works still cause = refl
step_moves old mid new game file.OutOfMemory is_open works still cause = refl
step_moves old mid new game file.Closed is_open works still cause = let no : true ≡ false = sym cause ∙ still ∙ is_open in absurd (cc)
step_moves old mid new game file.Inconsistent is_open works still cause = λ honest. absurd (cause (still_honest works.goes_on honest))

-- or the commit
pub root_moves : (old mid new : Store) (game : Option Game) (fault : FileFault) → old.closed ≡ false → StoreWorks old mid → mid.closed ≡ old.closed
    → NewRootCause mid new fault → MoveCause (state_of (file_of old game)) new.failures fault
root_moves old mid new game file.Disk is_open works still cause = grew_since works.failures cause
root_moves old mid new game file.NotATable is_open works still cause = absurd cause
root_moves old mid new game file.AlreadyATable is_open works still cause = absurd cause
root_moves old mid new game file.Damaged is_open works still cause = absurd cause
root_moves old mid new game file.OldLayout is_open works still cause = absurd cause
root_moves old mid new game file.TooSmall is_open works still cause = absurd cause
root_moves old mid new game file.TableFull is_open works still cause = absurd cause
root_moves old mid new game file.OutOfMemory is_open works still cause = absurd cause
root_moves old mid new game file.Closed is_open works still cause = let no : true ≡ false = sym cause ∙ still ∙ is_open in absurd (cc)
root_moves old mid new game file.Inconsistent is_open works still cause = absurd cause

-- what is said of an answer
pub of_ok : {X E : Type 0} (Such : X → Type 0) (r : Result X E) (x : X) → r ≡ Ok x → IfOk r Such → Such x
of_ok {X} {E} Such r x is it = subst (λ (s : Result X E). IfOk s Such) is it

pub of_done : {X E : Type 0} (Done : Type 0) (r : Result X E) (x : X) → r ≡ Ok x → OnOk r Done → Done
of_done {X} {E} Done r x is it = subst (λ (s : Result X E). OnOk s Done) is it

pub of_err : {X E : Type 0} (Such : E → Type 0) (r : Result X E) (x : E) → r ≡ Err x → IfErr r Such → Such x
of_err {X} {E} Such r x is it = subst (λ (s : Result X E). IfErr s Such) is it
