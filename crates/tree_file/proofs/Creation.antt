-- The empty table is made, and opened.
use Rattle.std.specs.Prelude.{min, Result, Ok, Err}
use Rattle.std.specs.Result.{IfOk}
use Rattle.std.proofs.Common.{◌≡◌, ◌⊎◌, inl, inr, ◌≤◌, ◌<◌, ◌/◌, ℕ, false, true, List, length, None, IsTrue, sym, ◌∙◌, ap, subst, arith}
use Rattle.std.proofs.Math.Nat.{le-min, le-div_iff_mul-le, min-le_left, min-le_right}
use Rattle.std.proofs.lemmas.Bool.{cases_lt}
use Rattle.sector_disk.specs.Disk.{Image, Shown, Disk, sector, size, Grew, GoesOn, LeavesOnly, MayLeave, AllSynced, SyncedMore}
use Rattle.sector_disk.specs.lemmas.Moments.{goes_on_trans, leaves_then, leaves_more, still_honest}
use Rattle.root_pair.specs.lemmas.Rest.{rest_leaves, synced_rests}
use Rattle.root_pair.specs.Root.{BeginsAsTable, HoldsRoot, IsMade, IsUnwritten, OldOrNoneOrNew, RootCreateCause}
use Rattle.root_pair.specs.declared.fault.RootFault.{RootFault}
use Rattle.root_pair.specs.declared.fault.RootFault.TheVariants as root
use Rattle.page_store.specs.Causes.{StoreOpenCause}
use Rattle.page_store.specs.declared.fault.PageFault.{PageFault}
use Rattle.page_store.specs.declared.fault.PageFault.TheVariants as page
use Rattle.page_store.specs.Store.{Store, IsOpened as IsFound, IsRefusedStore}
use Rattle.game_file.specs.Fields.{commits_in, layout_in, SaysPages}
use Rattle.game_file.specs.declared.fault.FileFault.{FileFault}
use Rattle.game_file.specs.declared.fault.FileFault.TheVariants.{Disk as DiskFailed, NotATable, AlreadyATable, Damaged, OldLayout, TooSmall, TableFull, OutOfMemory, Closed, Inconsistent}
use Rattle.game_file.specs.Calls.{IsOpenedFile, IsNotOpened, IsCreatedFile, IsNotCreated}
use Rattle.game_file.specs.Causes.{FileCreateCause, FileOpenCause}
use Rattle.game_file.specs.Faults.{of_pages, of_root}
use Rattle.game_file.specs.Kept.{Layout, Older, in_any}
use Rattle.game_file.specs.State.{State, GoesFrom, pages_of}
use Rattle.game_file.specs.Stops.{OldOrEmpty}
use Rattle.tree_table.specs.Held.{StoresTrees}
use Rattle.tree_table.specs.Slot.{IsEmptySlotOf, IsEmptyTreeSlot}
use Rattle.tree_table.specs.lemmas.OneTable.{an_image_says_its_pages, an_image_stores_one_tree_table}
use Rattle.tree_file.specs.Older.{IsOlderTable}
use Rattle.tree_file.specs.lemmas.MadeTable.{of_new}
use Rattle.tree_file.specs.lemmas.Whole.{older_none}

-- what a stop leaves after a sync it could leave before
pub left_before : {old new : Shown} → SyncedMore old new → (image : Image) → MayLeave new image → MayLeave old image
left_before more image left = record {
  no_shorter = omega (arith, more.lasting, left.no_shorter);
  no_longer = omega (arith, left.no_longer, ap (λ (p : Image). length p) more.contents);
  same = λ k synced. left.same k (more.synced k synced) ∙ ap (λ (p : Image). sector p k) more.contents;
}

-- a count that grew from a later one on grew
pub grew_from : {before mid now : ℕ} → before ≤ mid → Grew mid now → Grew before now
grew_from le (inl less) = inl (omega (arith, le, less))
grew_from le (inr most) = inr most

-- a slot of this layout and this many pages, in which no game is loaded
pub record IsEmptyRoot (layout pages : ℕ) (root : List ℕ) : Type 0 where
  pub of_layout : layout_in root ≡ layout
  pub says : SaysPages root pages
  pub empty : IsEmptyTreeSlot root

-- and one of this many pages is of as many as there are
pub empty_root : (layout : ℕ) {many pages : ℕ} {root : List ℕ} → many ≡ pages → IsEmptySlotOf layout many root → IsEmptyRoot layout pages root
empty_root layout {many} {pages} {root} same it = record {
  of_layout = it.layout;
  says = subst (λ (n : ℕ). SaysPages root n) same it.pages;
  empty = it.empty;
}

-- a table with it, on a disk that has this many sectors, stores the empty table in as many pages as they have room for
pub made_stores : (layout sectors : ℕ) {root : List ℕ} → IsEmptyRoot layout (min (sectors / 8) 1048576) root → (image : Image)
    → IsMade root sectors image → StoresTrees layout (min (sectors / 8) 1048576) image None
made_stores layout sectors {root} slot image made =
    let most : min (sectors / 8) 1048576 ≤ sectors / 8 = min-le_left (sectors / 8) 1048576 in
    record {
      root = root;
      holds = made.holds;
      same_layout = slot.of_layout;
      says = slot.says;
      enough = le-min ((le-div_iff_mul-le (omega arith)).1 (omega (arith, made.room))) (omega arith);
      few = min-le_right (sectors / 8) 1048576;
      room = omega (arith, most, made.no_shorter);
      keeps = slot.empty;
    }

pub old_or_empty : (layout : ℕ) (disk : Disk) {root : List ℕ} → IsEmptyRoot layout (pages_of disk) root → (image : Image)
    → OldOrNoneOrNew disk.now root image → OldOrEmpty (StoresTrees layout (pages_of disk)) disk.now image
old_or_empty layout disk {root} slot image either = λ table. each (either table)
  where
    each : MayLeave disk.now image ⊎ IsMade root (size disk) image → MayLeave disk.now image ⊎ StoresTrees layout (pages_of disk) image None
    each (inl left) = inl left
    each (inr made) = inr (made_stores layout (size disk) slot image made)

-- two facts of an answer give a third
pub both_ok : {X E : Type 0} (r : Result X E) (P Q R : X → Type 0) → ((x : X) → P x → Q x → R x) → IfOk r P → IfOk r Q → IfOk r R
both_ok (Ok x) P Q R f p q = f x p q
both_ok (Err e) P Q R f p q = tt

-- no is not yes
pub never : false ≡ true → ⊥
never is = cc

-- what `create` of the layer below promises where it answers Ok
pub record IsLaidDown (root : List ℕ) (disk mid : Disk) : Type 0 where
  pub goes_on : GoesOn disk mid
  pub same_size : size mid ≡ size disk
  pub room : 128 ≤ size disk
  pub holds : IsTrue disk.honest → HoldsRoot root mid.now.contents
  pub synced : IsTrue disk.honest → AllSynced mid.now
  pub moments : IsTrue disk.honest → LeavesOnly disk mid (OldOrNoneOrNew disk.now root)
  pub fresh : IsTrue disk.honest → ¬ BeginsAsTable disk.now.contents

pub laid_down : {root : List ℕ} {disk mid : Disk} → GoesOn disk mid → size mid ≡ size disk → 128 ≤ size disk
    → (IsTrue disk.honest → HoldsRoot root mid.now.contents) → (IsTrue disk.honest → AllSynced mid.now)
    → (IsTrue disk.honest → LeavesOnly disk mid (OldOrNoneOrNew disk.now root)) → (IsTrue disk.honest → ¬ BeginsAsTable disk.now.contents)
    → IsLaidDown root disk mid
laid_down goes_on same_size room holds synced moments fresh = record {
  goes_on = goes_on;
  same_size = same_size;
  room = room;
  holds = holds;
  synced = synced;
  moments = moments;
  fresh = fresh;
}

-- if the slot that was laid down tells no commit, none is told
pub counts_none : {root found : List ℕ} (disk mid : Disk) → IsLaidDown root disk mid → IsTrue disk.honest → HoldsRoot found mid.now.contents
    → commits_in root ≡ 0 → commits_in found ≡ 0
counts_none {root} {found} disk mid laid honest holds none = ap commits_in (sym holds.is ∙ (laid.holds honest).is) ∙ none

module _ (layout : ℕ) (disk : Disk) {root : List ℕ} (slot : IsEmptyRoot layout (pages_of disk) root) (mid : Disk) (count middle : ℕ)
    (more : count ≤ middle) (laid : IsLaidDown root disk mid) where
  -- a stop then leaves the empty table
  left_empty : IsTrue disk.honest → (image : Image) → MayLeave mid.now image → StoresTrees layout (pages_of disk) image None
  left_empty honest image left =
      let rest = synced_rests (laid.holds honest) (laid.synced honest) in
      let holds : HoldsRoot root image =
      subst (λ (r : List ℕ). HoldsRoot r image) (laid.holds honest).is (rest_leaves mid.now rest image left) in
      made_stores layout (size disk) slot image (record {
        holds = holds;
        room = laid.room;
        no_shorter = omega (arith, laid.same_size, (laid.synced honest).lasting, left.no_shorter);
      })

  stored_empty : IsTrue disk.honest → StoresTrees layout (pages_of disk) mid.now.contents None
  stored_empty honest =
      made_stores layout (size disk) slot mid.now.contents (record { holds = laid.holds honest; room = laid.room; no_shorter = omega (arith, laid.same_size) })

  from_first : (later : Disk) (now : ℕ) → GoesFrom mid middle later now → GoesFrom disk count later now
  from_first later now from = record {
    goes_on = goes_on_trans laid.goes_on from.goes_on;
    failures = omega (arith, more, from.failures);
    same_size = from.same_size ∙ laid.same_size;
  }

  leaves_through : (later : Disk) → GoesOn mid later → (IsTrue mid.honest → LeavesOnly mid later (MayLeave mid.now)) → IsTrue disk.honest
      → LeavesOnly disk later (OldOrEmpty (StoresTrees layout (pages_of disk)) disk.now)
  leaves_through later goes_on leaves honest =
      leaves_then goes_on (leaves_more (old_or_empty layout disk slot) (laid.moments honest))
      (leaves_more (λ image left table. inr (left_empty honest image left)) (leaves (still_honest laid.goes_on honest)))

  pub created : (file : State) → file.capacity ≡ pages_of disk → (IsTrue disk.honest → file.commits ≡ 0) → IsOpenedFile (StoresTrees layout) mid middle file
      → IsCreatedFile (StoresTrees layout) disk count file
  created file capacity commits opened = record {
    from = from_first file.disk file.failures opened.from;
    capacity = capacity;
    is_open = opened.is_open;
    commits = commits;
    empty = λ honest.
        (an_image_stores_one_tree_table layout layout file.capacity (pages_of disk) mid.now.contents file.kept None
        (opened.stored (still_honest laid.goes_on honest)) (stored_empty honest)).1;
    fresh = laid.fresh;
    leaves = λ honest. subst (λ (n : ℕ). LeavesOnly disk file.disk (OldOrEmpty (StoresTrees layout n) disk.now)) (sym capacity)
        (leaves_through file.disk opened.from.goes_on opened.leaves honest);
  }

  -- a file that was read of it has as many pages as were laid down
  pub created_pages : (file : State) → IsOpenedFile (StoresTrees layout) mid middle file → (layout < 3 → file.capacity ≡ pages_of mid)
      → IsTrue disk.honest → file.capacity ≡ pages_of disk
  created_pages file opened all honest = elim (cases_lt layout 3) [
    | inl early ↦ all early ∙ ap (λ (n : ℕ). min (n / 8) 1048576) laid.same_size
    | inr late ↦ an_image_says_its_pages layout file.capacity (pages_of disk) mid.now.contents file.kept None late
        (opened.stored (still_honest laid.goes_on honest)) (stored_empty honest)
  ]

  -- the disk of such a file, given back
  pub opened_back : (file : State) (back : Disk) (now : ℕ) → back ≡ file.disk → now ≡ file.failures → IsOpenedFile (StoresTrees layout) mid middle file
      → IsNotOpened mid middle back now
  opened_back file back now same failures opened =
      subst (λ (d : Disk). IsNotOpened mid middle d now) (sym same)
      (subst (λ (n : ℕ). IsNotOpened mid middle file.disk n) (sym failures) (record { from = opened.from; leaves = opened.leaves }))

  pub not_created : (back : Disk) (now : ℕ) → IsNotOpened mid middle back now → IsNotCreated (StoresTrees layout) disk count back now
  not_created back now refused = record {
    from = from_first back now refused.from;
    leaves = leaves_through back refused.from.goes_on refused.leaves;
    kept = λ honest begins. absurd (laid.fresh honest begins);
  }

  pub create_cause : (now : ℕ) (fault : FileFault) → FileOpenCause (in_any (StoresTrees layout)) (IsOlderTable layout) mid middle now fault
      → FileCreateCause disk count now (of_new fault)
  create_cause now DiskFailed cause = grew_from more cause
  create_cause now NotATable cause = λ honest. cause (still_honest laid.goes_on honest) (laid.holds honest).table
  create_cause now AlreadyATable cause = absurd cause
  create_cause now Damaged cause = λ honest. (cause (still_honest laid.goes_on honest)).1 None (pages_of disk, stored_empty honest)
  create_cause now OldLayout cause = λ honest.
      older_none layout (pages_of disk) mid.now.contents None (cause (still_honest laid.goes_on honest)) (stored_empty honest)
  create_cause now TooSmall cause = absurd cause
  create_cause now TableFull cause = absurd cause
  create_cause now OutOfMemory cause = tt
  create_cause now Closed cause = absurd cause
  create_cause now Inconsistent cause = absurd cause

-- why a store is not found is why a file is not
pub not_found : (Stores : Layout) (IsOlder : Older) (disk : Disk) (count now : ℕ) (fault : PageFault) → StoreOpenCause disk count now fault
    → FileOpenCause Stores IsOlder disk count now (of_pages fault)
not_found Stores IsOlder disk count now page.Disk cause = cause
not_found Stores IsOlder disk count now page.NotATable cause = cause
not_found Stores IsOlder disk count now page.Damaged cause = absurd cause
not_found Stores IsOlder disk count now page.TableFull cause = absurd cause
not_found Stores IsOlder disk count now page.OutOfMemory cause = tt
not_found Stores IsOlder disk count now page.Closed cause = absurd cause

pub refused_store : (disk : Disk) (count : ℕ) (back : Disk) (now : ℕ) → IsRefusedStore disk count back now → IsNotOpened disk count back now
refused_store disk count back now refused = record {
  from = record { goes_on = refused.goes_on; failures = refused.failures; same_size = refused.same_size };
  leaves = refused.leaves;
}

pub back_found : (disk : Disk) (count : ℕ) (found : Store) (back : Disk) (now : ℕ) → IsFound disk count found → back ≡ found.disk → now ≡ found.failures
    → IsNotOpened disk count back now
back_found disk count found back now at_first same failures =
    subst (λ (d : Disk). IsNotOpened disk count d now) (sym same)
    (record {
      from = record { goes_on = at_first.goes_on; failures = omega (arith, at_first.failures, failures); same_size = at_first.same_size };
      leaves = at_first.leaves;
    })

-- a disk that is asked to be made and is not: what the layer below left of it
pub not_laid : (layout : ℕ) {root : List ℕ} (disk mid : Disk) (count now : ℕ) → IsEmptyRoot layout (pages_of disk) root → GoesOn disk mid
    → size mid ≡ size disk → count ≤ now → (IsTrue disk.honest → LeavesOnly disk mid (OldOrNoneOrNew disk.now root))
    → (IsTrue disk.honest → BeginsAsTable disk.now.contents → IsUnwritten disk mid) → IsNotCreated (StoresTrees layout) disk count mid now
not_laid layout disk mid count now slot goes_on same_size failures moments kept = record {
  from = record { goes_on = goes_on; failures = failures; same_size = same_size };
  leaves = λ honest. leaves_more (old_or_empty layout disk slot) (moments honest);
  kept = λ honest begins. (kept honest begins).leaves;
}

pub why_not_laid : (disk : Disk) (count now : ℕ) (fault : RootFault) → RootCreateCause disk count now fault → FileCreateCause disk count now (of_root fault)
why_not_laid disk count now root.Read cause = cause
why_not_laid disk count now root.Write cause = cause
why_not_laid disk count now root.NotATable cause = absurd cause
why_not_laid disk count now root.AlreadyATable cause = cause
why_not_laid disk count now root.TooSmall cause = cause
