-- What becomes of a table where its layout may be an earlier one than today's.
use Rattle.std.specs.Prelude.{◌≢◌, ◌⊎◌, ℕ, Option, Some, IsTrue}
use Rattle.sector_disk.specs.Disk.{Image, Shown, Disk, Grew, LeavesOnly, MayLeave, StopsIn}
use Rattle.root_pair.specs.Root.{IsTableImage}
use Rattle.page_store.specs.Store.{SameHeader}
use Rattle.table.specs.Fit.{FitsTogether}
use Rattle.game_file.specs.Kept.{Kept, Layout, Older, in_any}
use Rattle.game_file.specs.State.{GoesFrom}
use Rattle.game_file.specs.Stops.{LeavesNow}
use Rattle.solver.specs.declared.fault.SolverFault.{SolverFault}
use Rattle.solver.specs.declared.fault.SolverFault.TheVariants.{Disk as DiskFailed, NotATable, Damaged, TableFull, OutOfMemory, Inconsistent}
use Rattle.solver.specs.Held.{Holds}

-- the image stores the table in the one layout or in the other
abbrev pub EitherLayout : (ℕ → Layout) → (ℕ → Layout) → ℕ → Layout
EitherLayout One Other pages image kept = One pages image kept ⊎ Other pages image kept

-- a file of the second layout and of today's tells tables of the layouts before it by their slots; before the first there was none; and a
-- table of the second layout moves by its root alone
pub record AreLayouts (First Second : ℕ → Layout) (IsBeforeFirst IsBeforeSecond IsBeforeToday : Older) (CopiesSecond : Type 0) : Type 0 where
  pub first_is_first : (image : Image) → ¬ IsBeforeFirst image
  pub first_before : (pages : ℕ) (image : Image) (kept : Option Kept) → First pages image kept → IsBeforeSecond image × IsBeforeToday image
  pub second_before : (pages : ℕ) (image : Image) (kept : Option Kept) → Second pages image kept → IsBeforeToday image
  pub by_root : ¬ CopiesSecond

module _ (Earlier Today : ℕ → Layout) where
  -- the table was in an earlier layout, with each position one of its game; now it is in today's, the same in as many pages, and the header
  -- is as it was. A stop since it began leaves what it could leave before, or this table in an earlier layout or in today's, and a stop now in
  -- today's
  pub record IsMigrated (disk : Disk) (count : ℕ) (back : Disk) (now : ℕ) : Type 0 where
    pub from : GoesFrom disk count back now
    pub header : SameHeader disk back
    pub pages : ℕ
    pub kept : Option Kept
    pub held : IsTrue disk.honest → Holds (Earlier pages) disk.now.contents kept
    pub leaves : IsTrue disk.honest
        → LeavesOnly disk back (λ image. MayLeave disk.now image ⊎ (Earlier pages image kept ⊎ Today pages image kept))
    pub is : IsTrue disk.honest → LeavesNow (Today pages) back kept

  -- the table was in today's layout before, and nothing was written: a stop leaves what it could leave before, and a stop now this table
  pub record IsCurrent (disk : Disk) (count : ℕ) (back : Disk) (now : ℕ) : Type 0 where
    pub from : GoesFrom disk count back now
    pub header : SameHeader disk back
    pub pages : ℕ
    pub kept : Option Kept
    pub held : IsTrue disk.honest → Holds (Today pages) disk.now.contents kept
    pub leaves : IsTrue disk.honest → LeavesOnly disk back (MayLeave disk.now)
    pub is : IsTrue disk.honest → LeavesNow (Today pages) back kept

  -- what a stop leaves of a disk that held a table of an earlier layout: what it could leave before, or this table in an earlier layout
  abbrev pub OldTable : Disk → Image → Type 0
  OldTable disk image = MayLeave disk.now image
      ⊎ ((pages : ℕ) × (kept : Option Kept) × Holds (Earlier pages) disk.now.contents kept × Earlier pages image kept)

  -- or in today's
  abbrev pub OldOrNewTable : Disk → Image → Type 0
  OldOrNewTable disk image = OldTable disk image
      ⊎ ((pages : ℕ) × (kept : Option Kept) × Holds (Earlier pages) disk.now.contents kept × Today pages image kept)

  -- it was refused: a stop since it began leaves what it could leave before, or the old table; where a write or a sync failed, that or the
  -- same table in today's layout
  pub record IsNotMigrated (disk : Disk) (count : ℕ) (back : Disk) (now : ℕ) (fault : SolverFault) : Type 0 where
    pub from : GoesFrom disk count back now
    pub header : SameHeader disk back
    pub leaves : IsTrue disk.honest → fault ≢ DiskFailed → LeavesOnly disk back (OldTable disk)
    pub unwritten : IsTrue disk.honest → ¬ Grew disk.failed_writes back.failed_writes → LeavesOnly disk back (OldTable disk)
    pub either : IsTrue disk.honest → LeavesOnly disk back (OldOrNewTable disk)

-- why it is refused: the disk failed; no table is there; it begins as each table does, and holds none of any layout; it holds one of the
-- first layout with a game, and too few pages are free, or its positions have no bytes; or memory ran out. It is never E5
abbrev pub MigrateCause : (ℕ → Layout) → (ℕ → Layout) → (ℕ → Layout) → Disk → ℕ → ℕ → SolverFault → Type 0
MigrateCause First Second Today disk before now DiskFailed = Grew before now
MigrateCause First Second Today disk before now NotATable = IsTrue disk.honest → ¬ IsTableImage disk.now.contents
MigrateCause First Second Today disk before now Damaged =
    IsTrue disk.honest → IsTableImage disk.now.contents
    × ((kept : Option Kept) → ¬ Holds (in_any First) disk.now.contents kept)
    × ((kept : Option Kept) → ¬ Holds (in_any Second) disk.now.contents kept)
    × ((kept : Option Kept) → ¬ Holds (in_any Today) disk.now.contents kept)
MigrateCause First Second Today disk before now TableFull =
    IsTrue disk.honest → (kept : Kept) × Holds (in_any First) disk.now.contents (Some kept)
MigrateCause First Second Today disk before now OutOfMemory = Unit {0}
MigrateCause First Second Today disk before now Inconsistent =
    IsTrue disk.honest → (kept : Kept) × Holds (in_any First) disk.now.contents (Some kept) × FitsTogether 0 kept.table
MigrateCause First Second Today disk before now _ = ⊥

-- an honest disk as it is found after a stop: nothing can be left of it that the stop could not leave
abbrev pub IsFoundThen : Shown → Disk → Type 0
IsFoundThen left disk = IsTrue disk.honest × ((image : Image) → MayLeave disk.now image → MayLeave left image)

-- what the disk shows in the course of migrations of this table: at first every stop leaves it, in an earlier layout or
-- in today's; and any number of migrations begin with what is left, each answered or refused, and a stop may come at
-- any moment of each, or behind the last
module _ (Earlier Today : ℕ → Layout) (kept : Option Kept) where
  pub data AreMigrations : Shown → Type 0 where
    began : {left : Shown}
        → ((image : Image) → MayLeave left image → in_any (EitherLayout Earlier Today) image kept)
        → AreMigrations left
    was_migrated : {before left : Shown} {disk back : Disk} {count now moment : ℕ} → AreMigrations before
        → IsFoundThen before disk → IsMigrated Earlier Today disk count back now → StopsIn disk back moment left
        → AreMigrations left
    was_current : {before left : Shown} {disk back : Disk} {count now moment : ℕ} → AreMigrations before
        → IsFoundThen before disk → IsCurrent Earlier Today disk count back now → StopsIn disk back moment left
        → AreMigrations left
    was_refused : {before left : Shown} {disk back : Disk} {count now moment : ℕ} {fault : SolverFault}
        → AreMigrations before → IsFoundThen before disk → IsNotMigrated Earlier Today disk count back now fault
        → StopsIn disk back moment left → AreMigrations left
