-- What is read of a disk is what it stores.
use Rattle.std.proofs.Common.{◌≡◌, inl, inr, ◌≤◌, ◌<◌, ◌*◌, ◌/◌, ℕ, Bool, false, true, List, length, Option, IsTrue, refl, sym, ◌∙◌, ap, subst, arith}
use Rattle.std.specs.Prelude.{min}
use Rattle.std.proofs.Math.Nat.{le-min, le-div_iff_mul-le}
use Rattle.std.proofs.lemmas.Bool.{cases_lt}
use Rattle.sector_disk.specs.Disk.{Image, Shown, Disk, size, GoesOn, LeavesOnly, MayLeave, SyncedMore}
use Rattle.sector_disk.specs.lemmas.Moments.{goes_on_trans, leaves_then, leaves_more, still_honest}
use Rattle.root_pair.specs.Root.{HoldsRoot}
use Rattle.page_store.specs.Page.{page as bytes_of}
use Rattle.page_store.specs.Store.{Store, IsOpened as IsOpenedStore, IsSoundStore, reads}
use Rattle.game_file.specs.Fields.{capacity_in, layout_in, SaysPages}
use Rattle.game_file.specs.declared.fault.FileFault.{FileFault}
use Rattle.game_file.specs.declared.fault.FileFault.TheVariants.{Disk as DiskFailed, NotATable, AlreadyATable, Damaged, OldLayout, TooSmall}
use Rattle.game_file.specs.declared.fault.FileFault.TheVariants.{TableFull, OutOfMemory, Closed, Inconsistent}
use Rattle.game_file.specs.Calls.{IsNotOpened, IsOpenedFile}
use Rattle.game_file.specs.Causes.{FileOpenCause}
use Rattle.game_file.specs.Kept.{Kept, in_any}
use Rattle.game_file.specs.State.{GoesFrom}
use Rattle.page_store.specs.Frames.{IsReadOn}
use Rattle.page_store.specs.Pages.{AllWait}
use Rattle.tree_table.specs.declared.slot.Slot.{Slot}
use Rattle.tree_table.specs.declared.slot.TreeSlot.{TreeSlot}
use Rattle.tree_table.specs.Held.{KeepsTrees, StoresTrees}
use Rattle.tree_table.specs.KeptTrees.{slot_or_bare}
use Rattle.tree_table.specs.WorkTable.{work_of}
use Rattle.tree_table.specs.lemmas.KeptPages.{keeps_in_more_trees, kept_stands}
use Rattle.tree_file.specs.File.{IsWholeFile, file_of, kept_with, state_of}
use Rattle.tree_file.specs.Older.{IsOlderRoot, IsOlderTable}
use Rattle.tree_file.specs.Opened.{IsFoundInFile, IsRootRead, RootCause}
use Rattle.tree_file.specs.lemmas.Opened.{IsFileRead}
use Rattle.tree_file.specs.lemmas.GameReads.{NoGameReadCause}
use Rattle.tree_file.specs.lemmas.Backed.{IsBackedFile}
use Rattle.tree_file.proofs.Creation.{grew_from, left_before}
use Rattle.tree_file.proofs.Commits.{calm_sealed}
use Rattle.tree_file.proofs.SealedStore.{found_stands}

-- this many pages are within what a disk of this many sectors has room for
within_room : (pages sectors : ℕ) → 8 * pages ≤ sectors → pages ≤ 1048576 → pages ≤ min (sectors / 8) 1048576
within_room pages sectors room few = le-min ((le-div_iff_mul-le (omega arith)).1 (omega (arith, room))) few

-- a store whose root was read, as far as it goes by the disk
pub record IsCutStore (layout : ℕ) (disk : Disk) (count : ℕ) (cut : Store) : Type 0 where
  pub goes_on : GoesOn disk cut.disk
  pub failures : count ≤ cut.failures
  pub same_size : size cut.disk ≡ size disk
  pub closed : cut.closed ≡ false
  pub root : IsTrue disk.honest → HoldsRoot cut.root disk.now.contents
  pub same : IsTrue disk.honest → SyncedMore disk.now cut.disk.now
  pub leaves : IsTrue disk.honest → LeavesOnly disk cut.disk (MayLeave disk.now)
  pub of_layout : layout_in cut.root ≡ layout
  pub says : SaysPages cut.root (length cut.marks)
  pub few : length cut.marks ≤ 1048576
  pub room : 8 * length cut.marks ≤ size disk
  pub all : layout < 3 → length cut.marks ≡ min (size disk / 8) 1048576
  pub waits : AllWait cut

pub cut_store : (layout : ℕ) (slot : Slot) (disk : Disk) (count : ℕ) (found cut : Store) → IsOpenedStore disk count found → IsSoundStore found
    → IsRootRead layout slot found cut → IsCutStore layout disk count cut
cut_store layout slot disk count found cut at_first sound read =
    let same : found.disk ≡ cut.disk = sym read.cut.disk in
    record {
      goes_on = subst (λ (d : Disk). GoesOn disk d) same at_first.goes_on;
      failures = omega (arith, at_first.failures, read.cut.failures);
      same_size = ap size read.cut.disk ∙ at_first.same_size;
      closed = read.cut.closed ∙ at_first.closed;
      root = λ honest. subst (λ (r : List ℕ). HoldsRoot r disk.now.contents) (sym read.cut.root) (at_first.root honest);
      same = λ honest. subst (λ (d : Disk). SyncedMore disk.now d.now) same (at_first.same honest);
      leaves = λ honest. subst (λ (d : Disk). LeavesOnly disk d (MayLeave disk.now)) same (at_first.leaves honest);
      of_layout = read.of_layout;
      says = read.says;
      few = omega (arith, sound.few, read.fewer);
      room = omega (arith, sound.fits, read.fewer, at_first.same_size);
      all = λ early. read.all early ∙ at_first.capacity;
      waits = read.waits;
    }

module _ (layout : ℕ) (disk : Disk) (count : ℕ) (cut now : Store) (at_first : IsCutStore layout disk count cut) (read : IsReadOn cut now) where
  pub read_from : GoesFrom disk count now.disk now.failures
  read_from = record {
    goes_on = goes_on_trans at_first.goes_on read.goes_on;
    failures = omega (arith, at_first.failures, read.failures);
    same_size = read.same_size ∙ at_first.same_size;
  }

  pub read_leaves : IsTrue disk.honest → LeavesOnly disk now.disk (MayLeave disk.now)
  read_leaves honest =
      leaves_then read.goes_on (at_first.leaves honest)
      (leaves_more (left_before (at_first.same honest)) (read.leaves (still_honest at_first.goes_on honest)))

  now_layout : layout_in now.root ≡ layout
  now_layout = ap layout_in read.root ∙ at_first.of_layout

  now_says : SaysPages now.root (length now.marks)
  now_says =
      subst (λ (n : ℕ). SaysPages now.root n) (sym read.same_pages)
      (subst (λ (r : List ℕ). SaysPages r (length cut.marks)) (sym read.root) at_first.says)

  -- what is found is what the disk stores
  found_stored : (commits : ℕ) (game : Option TreeSlot) (text : List ℕ) → IsFoundInFile commits game text now → IsTrue disk.honest
      → StoresTrees layout (length now.marks) disk.now.contents (kept_with game text (reads now))
  found_stored commits game text it honest =
      let here = still_honest at_first.goes_on honest in
      let same : now.disk.now.contents ≡ disk.now.contents = ap (λ (s : Shown). s.contents) (read.shown here) ∙ (at_first.same honest).contents in
      let kept = kept_with game text (reads now) in
      let stands = kept_stands now kept (it.kept (still_honest read.goes_on here)) in
      record {
        root = now.root;
        holds = subst (λ (root : List ℕ). HoldsRoot root disk.now.contents) (sym read.root) (at_first.root honest);
        same_layout = now_layout;
        says = now_says;
        enough = it.room;
        few = omega (arith, at_first.few, read.same_pages);
        room = omega (arith, at_first.room, read.same_pages);
        keeps = stands.spelled.anywhere (bytes_of disk.now.contents) (λ p here. ap (λ (image : Image). bytes_of image p) (sym same));
      }

  found_opened : (commits : ℕ) (game : Option TreeSlot) (text : List ℕ) → IsFoundInFile commits game text now
      → IsOpenedFile (StoresTrees layout) disk count (state_of (file_of (work_of (slot_or_bare game) text false now) game))
  found_opened commits game text it = record {
    from = read_from;
    is_open = read.closed ∙ at_first.closed;
    stored = found_stored commits game text it;
    leaves = read_leaves;
  }

  -- what the disk stores is what its slot and pages keep
  kept_there : (pages : ℕ) (kept : Option Kept) → IsTrue disk.honest → StoresTrees layout pages disk.now.contents kept
      → KeepsTrees cut.root (length cut.marks) kept (reads cut)
  kept_there pages kept honest stores =
      let same_root : stores.root ≡ cut.root = sym stores.holds.is ∙ (at_first.root honest).is in
      let same : disk.now.contents ≡ cut.disk.now.contents = sym (at_first.same honest).contents in
      subst (λ (image : Image). KeepsTrees cut.root (length cut.marks) kept (bytes_of image)) same
      (subst (λ (root : List ℕ). KeepsTrees root (length cut.marks) kept (bytes_of disk.now.contents)) same_root
      (keeps_in_more_trees stores.root pages (length cut.marks) kept (bytes_of disk.now.contents) (elim (cases_lt layout 3) [
        | inl early ↦ let most = within_room pages (size disk) stores.room stores.few in omega (arith, most, at_first.all early)
        | inr late ↦
            let one = stores.says (omega (arith, late, stores.same_layout)) in
            let other = at_first.says (omega (arith, late, at_first.of_layout)) in
            omega (arith, one, other, ap capacity_in same_root)
      ]) stores.keeps))

  -- why it is not opened
  pub read_cause : (fault : FileFault) → NoGameReadCause cut now fault
      → FileOpenCause (in_any (StoresTrees layout)) (IsOlderTable layout) disk count now.failures fault
  read_cause DiskFailed cause = grew_from at_first.failures cause
  read_cause NotATable cause = absurd cause
  read_cause AlreadyATable cause = absurd cause
  read_cause Damaged cause = λ honest. (
    (at_first.root honest).table,
    λ kept stores. cause (still_honest at_first.goes_on honest) at_first.waits kept (kept_there stores.0 kept honest stores.1),
    λ older.
        let same_root : older.root ≡ cut.root = sym older.holds.is ∙ (at_first.root honest).is in
        omega (arith, older.older.1, ap layout_in same_root, at_first.of_layout),
  )
  read_cause OldLayout cause = absurd cause
  read_cause TooSmall cause = absurd cause
  read_cause TableFull cause = absurd cause
  read_cause OutOfMemory cause = tt
  read_cause Closed cause = absurd (apart cut.closed at_first.closed cause)
    where
      apart : (b : Bool) → b ≡ false → b ≡ true → ⊥
      apart b one other = cc
  read_cause Inconsistent cause = absurd cause

  pub not_opened : (back : Disk) (failures : ℕ) → back ≡ now.disk → failures ≡ now.failures → IsNotOpened disk count back failures
  not_opened back failures same many =
      subst (λ (d : Disk). IsNotOpened disk count d failures) (sym same)
      (subst (λ (n : ℕ). IsNotOpened disk count now.disk n) (sym many) (record { from = read_from; leaves = read_leaves }))

  -- a file in which this is found is whole
  found_whole : (commits : ℕ) (game : Option TreeSlot) (text : List ℕ) → IsFoundInFile commits game text now → IsSoundStore now
      → IsWholeFile layout (file_of (work_of (slot_or_bare game) text false now) game)
  found_whole commits game text it sound = record {
    sound = sound;
    of_layout = now_layout;
    says = now_says;
    room = it.room;
    whole = refl;
    slot = refl;
    names = it.names;
    calm = it.calm;
    free = it.free;
    kept = it.kept;
  }

  -- what is found stands after its file
  pub found_backed : (commits : ℕ) (game : Option TreeSlot) (text : List ℕ) → IsFoundInFile commits game text now
      → IsBackedFile layout commits (file_of (work_of (slot_or_bare game) text false now) game)
  found_backed commits game text it = record {
    of_layout = now_layout;
    counted = it.counted;
    sized = it.sized;
    sealed = calm_sealed now it.calm;
    stands = λ honest. ∣ found_stands commits game text now it honest ∣₁;
  }

  -- what is found is a file that was read
  pub file_read : (commits : ℕ) (game : Option TreeSlot) (text : List ℕ) → IsFoundInFile commits game text now → IsSoundStore now
      → IsFileRead layout disk count (file_of (work_of (slot_or_bare game) text false now) game)
  file_read commits game text it sound = record {
    whole = found_whole commits game text it sound;
    opened = found_opened commits game text it;
    root = λ honest. subst (λ (r : List ℕ). HoldsRoot r disk.now.contents) (sym read.root) (at_first.root honest);
    all = λ early. read.same_pages ∙ at_first.all early;
    alone = record { kept = it.kept; alone = it.alone };
  }

-- why a root is no root of a table of this layout is why the file is not opened
pub root_cause : (layout : ℕ) (disk : Disk) (count : ℕ) (found : Store) (now : ℕ) (fault : FileFault) → IsOpenedStore disk count found
    → RootCause layout found fault → FileOpenCause (in_any (StoresTrees layout)) (IsOlderTable layout) disk count now fault
root_cause layout disk count found now DiskFailed at_first cause = absurd cause
root_cause layout disk count found now NotATable at_first cause = absurd cause
root_cause layout disk count found now AlreadyATable at_first cause = absurd cause
root_cause layout disk count found now Damaged at_first cause = λ honest. (
  (at_first.root honest).table,
  λ kept stores.
      let (pages, it) = stores in
      let same_root : it.root ≡ found.root = sym it.holds.is ∙ (at_first.root honest).is in
      let most = within_room pages (size disk) it.room it.few in
      cause.1 pages kept (bytes_of disk.now.contents) (ap layout_in (sym same_root) ∙ it.same_layout)
      (subst (λ (r : List ℕ). SaysPages r pages) same_root it.says) it.enough (omega (arith, most, at_first.capacity))
      (subst (λ (r : List ℕ). KeepsTrees r pages kept (bytes_of disk.now.contents)) same_root it.keeps),
  λ older.
      let same_root : older.root ≡ found.root = sym older.holds.is ∙ (at_first.root honest).is in
      cause.0 (subst (λ (r : List ℕ). IsOlderRoot layout r) same_root older.older),
)
root_cause layout disk count found now OldLayout at_first cause = λ honest. record { root = found.root; holds = at_first.root honest; older = cause }
root_cause layout disk count found now TooSmall at_first cause = absurd cause
root_cause layout disk count found now TableFull at_first cause = absurd cause
root_cause layout disk count found now OutOfMemory at_first cause = absurd cause
root_cause layout disk count found now Closed at_first cause = absurd cause
root_cause layout disk count found now Inconsistent at_first cause = absurd cause
