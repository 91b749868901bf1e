-- What is read of a disk is what it stores.
use Rattle.std.proofs.Common.{◌≡◌, inl, inr, ◌≤◌, ℕ, Bool, false, true, List, Option, IsTrue, length, sym, ◌∙◌, ap, subst, arith}
use Rattle.sector_disk.specs.Disk.{Image, Shown, Disk, sector, LeavesOnly, MayLeave, SyncedMore, Grew}
use Rattle.sector_disk.specs.lemmas.Moments.{goes_on_trans, leaves_then, leaves_more, still_honest}
use Rattle.root_pair.specs.Root.{HoldsRoot}
use Rattle.page_store.specs.declared.fault.PageFault.{PageFault}
use Rattle.page_store.specs.declared.fault.PageFault.TheVariants as page
use Rattle.page_store.specs.Page.{page as bytes_of}
use Rattle.page_store.specs.Frames.{IsReadOn}
use Rattle.page_store.specs.Store.{Store, IsOpened as IsFound, reads}
use Rattle.earlier_layouts.specs.declared.game.Game.{Game}
use Rattle.earlier_layouts.specs.File.{IsBacked, kept_of, pages_of}
use Rattle.earlier_layouts.specs.Held.{KeepsTable, capacity_of, Stores, IsOlder}
use Rattle.earlier_layouts.specs.lemmas.StoredLaws.{keeps_in_more}
use Rattle.game_file.specs.Kept.{Kept, in_any}
use Rattle.earlier_layouts.specs.ReadCauses.{GameReadCause}
use Rattle.game_file.specs.Calls.{IsNotOpened, IsOpenedFile}
use Rattle.game_file.specs.Causes.{FileOpenCause}
use Rattle.game_file.specs.Faults.{of_pages}
use Rattle.game_file.specs.State.{GoesFrom}
use Rattle.earlier_layouts.specs.Calls.{file_of, state_of}

-- what a stop leaves after a sync it could leave before
pub left_before : {old new : Shown} → SyncedMore old new → (image : Image) → MayLeave new image → MayLeave old image
left_before more image left = record {
  no_shorter = omega (arith, more.lasting, left.no_shorter);
  no_longer = omega (arith, left.no_longer, ap (λ (p : Image). length p) more.contents);
  same = λ k synced. left.same k (more.synced k synced) ∙ ap (λ (p : Image). sector p k) more.contents;
}

-- a count that grew from a later one on grew
pub grew_from : {before mid now : ℕ} → before ≤ mid → Grew mid now → Grew before now
grew_from le (inl less) = inl (omega (arith, le, less))
grew_from le (inr most) = inr most

module _ (disk : Disk) (count : ℕ) (found now : Store) (at_first : IsFound disk count found) (read : IsReadOn found now) where
  pub from : GoesFrom disk count now.disk now.failures
  from = record {
    goes_on = goes_on_trans at_first.goes_on read.goes_on;
    failures = omega (arith, at_first.failures, read.failures);
    same_size = read.same_size ∙ at_first.same_size;
  }

  pub leaves : IsTrue disk.honest → LeavesOnly disk now.disk (MayLeave disk.now)
  leaves honest =
      leaves_then read.goes_on (at_first.leaves honest)
      (leaves_more (left_before (at_first.same honest)) (read.leaves (still_honest at_first.goes_on honest)))

  -- the disk as it is given back
  pub not_opened : (back : Disk) (failures : ℕ) → back ≡ now.disk → failures ≡ now.failures → IsNotOpened disk count back failures
  not_opened back failures same many =
      subst (λ (d : Disk). IsNotOpened disk count d failures) (sym same)
      (subst (λ (n : ℕ). IsNotOpened disk count now.disk n) (sym many) (record { from = from; leaves = leaves }))

  -- what is in memory is what the disk stores
  stored : (game : Option Game) → IsBacked now (pages_of game) (kept_of game) → IsTrue disk.honest → Stores (length now.marks) disk.now.contents (kept_of game)
  stored game backed honest =
      let here = still_honest at_first.goes_on honest in
      let same : now.disk.now.contents ≡ disk.now.contents = ap (λ (s : Shown). s.contents) (read.shown here) ∙ (at_first.same honest).contents in
      let capacity : length now.marks ≡ capacity_of disk.now.contents = read.same_pages ∙ at_first.capacity in
      let stands = backed.stands (still_honest read.goes_on here) (read.closed ∙ at_first.closed) in
      record {
        root = now.root;
        holds = subst (λ (root : List ℕ). HoldsRoot root disk.now.contents) (sym read.root) (at_first.root honest);
        least = backed.room;
        room = omega (arith, capacity);
        keeps = stands.spelled.anywhere (bytes_of disk.now.contents) (λ p here. ap (λ (image : Image). bytes_of image p) (sym same));
      }

  pub opened : (game : Option Game) → IsBacked now (pages_of game) (kept_of game) → IsOpenedFile Stores disk count (state_of (file_of now game))
  opened game backed = record {
    from = from;
    is_open = read.closed ∙ at_first.closed;
    stored = stored game backed;
    leaves = leaves;
  }

  -- what the disk stores is what its slot and pages keep
  kept_there : (pages : ℕ) (kept : Option Kept) → IsTrue disk.honest → Stores pages disk.now.contents kept
      → KeepsTable found.root (length found.marks) kept (reads found)
  kept_there pages kept honest stores =
      let same_root : stores.root ≡ found.root = sym stores.holds.is ∙ (at_first.root honest).is in
      let same : disk.now.contents ≡ found.disk.now.contents = sym (at_first.same honest).contents in
      subst (λ (image : Image). KeepsTable found.root (length found.marks) kept (bytes_of image)) same
      (subst (λ (n : ℕ). KeepsTable found.root n kept (bytes_of disk.now.contents)) (sym at_first.capacity)
      (subst (λ (root : List ℕ). KeepsTable root (capacity_of disk.now.contents) kept (bytes_of disk.now.contents)) same_root
      (keeps_in_more stores.root pages (capacity_of disk.now.contents) kept (bytes_of disk.now.contents) stores.room stores.keeps)))

  -- why it is not opened
  pub open_cause : (fault : PageFault) → GameReadCause found now fault → FileOpenCause (in_any Stores) IsOlder disk count now.failures (of_pages fault)
  open_cause page.Disk cause = grew_from at_first.failures cause
  open_cause page.NotATable cause = absurd cause
  open_cause page.Damaged cause = λ honest. (
    (at_first.root honest).table,
    λ kept (pages, stores).
        let less = cause (still_honest at_first.goes_on honest) at_first.marks kept (kept_there pages kept honest stores) in
        omega (arith, less, stores.least, stores.room, at_first.capacity),
    λ older. older,
  )
  open_cause page.TableFull cause = absurd cause
  open_cause page.OutOfMemory cause = tt
  open_cause page.Closed cause = absurd (apart _ at_first.closed cause)
    where
      apart : (b : Bool) → b ≡ false → b ≡ true → ⊥
      apart b one other = cc
