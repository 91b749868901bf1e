-- Why a migration is refused.
use Rattle.std.proofs.Common.{◌≡◌, ◌≢◌, ◌⊎◌, inl, inr, ℕ, Option, Some, None, IsTrue, refl, sym, ◌∙◌, subst}
use Rattle.std.specs.Prelude.{IsSome}
use Rattle.sector_disk.specs.Disk.{Image, Disk}
use Rattle.sector_disk.specs.lemmas.Moments.{still_honest}
use Rattle.root_pair.specs.Root.{IsTableImage}
use Rattle.page_store.specs.lemmas.Works.{grew_since}
use Rattle.game_file.specs.Kept.{Kept, Layout, Older, in_any}
use Rattle.game_file.specs.State.{State}
use Rattle.game_file.specs.declared.fault.FileFault.{FileFault}
use Rattle.game_file.specs.declared.fault.FileFault.TheVariants as file
use Rattle.solver.specs.declared.fault.SolverFault.{SolverFault}
use Rattle.solver.specs.declared.fault.SolverFault.TheVariants.{Disk as DiskFailed, NotATable, AlreadyATable, Damaged, OldLayout, TooSmall, TableFull}
use Rattle.solver.specs.declared.fault.SolverFault.TheVariants.{OutOfMemory, Closed, Game, NoGame, GameAlready, KeeperChooses, TooWide}
use Rattle.solver.specs.declared.fault.SolverFault.TheVariants.{TooManyPositions, Inconsistent, NoSuchPosition, NotSettled, ListingsUsedUp, BadPosition}
use Rattle.solver.specs.Faults.{file_fault}
use Rattle.solver.specs.Held.{Holds}
use Rattle.solver.specs.Opened.{IsOpened, OpenCause, LayoutCause}
use Rattle.recover.specs.Migrations.{AreLayouts, MigrateCause}
use Rattle.recover.specs.Moves.{IsNotMovedFrom, IsUnmoved, MoveOnCause}
use Rattle.recover.specs.lemmas.Steps.{IsReadSince}
use Rattle.recover.proofs.SyncedReads.{read_on}

-- what is there of an option that is some
some_is : (kept : Option Kept) → IsSome kept → (is : Kept) × (kept ≡ Some is)
some_is None some = absurd (cc)
some_is (Some is) some = (is, refl)

-- a move is not refused for an earlier layout
not_older : (Copies : Type 0) (was : State) (now : ℕ) (why : FileFault) → OldLayout ≡ file_fault why → MoveOnCause Copies was now why → ⊥
not_older Copies was now file.Disk is cause = let no : OldLayout ≡ DiskFailed = is in cc
not_older Copies was now file.NotATable is cause = let no : OldLayout ≡ NotATable = is in cc
not_older Copies was now file.AlreadyATable is cause = let no : OldLayout ≡ AlreadyATable = is in cc
not_older Copies was now file.Damaged is cause = let no : OldLayout ≡ Damaged = is in cc
not_older Copies was now file.OldLayout is cause = cause.1
not_older Copies was now file.TooSmall is cause = let no : OldLayout ≡ TooSmall = is in cc
not_older Copies was now file.TableFull is cause = let no : OldLayout ≡ TableFull = is in cc
not_older Copies was now file.OutOfMemory is cause = let no : OldLayout ≡ OutOfMemory = is in cc
not_older Copies was now file.Closed is cause = let no : OldLayout ≡ Closed = is in cc
not_older Copies was now file.Inconsistent is cause = let no : OldLayout ≡ Inconsistent = is in cc

pub unmoved_not_older : {From To : ℕ → Layout} {Copies : Type 0} {IsOlder : Older} (disk back : Disk) (count now : ℕ) (fault : SolverFault)
    → IsUnmoved From To Copies IsOlder disk count back now fault → fault ≢ OldLayout
unmoved_not_older {From} {To} {Copies} disk back count now fault it is = not_older Copies it.was now it.why (sym is ∙ it.is) it.cause

-- it is one of an earlier layout, or not
older_or_not : (fault : SolverFault) → (fault ≡ OldLayout) ⊎ (fault ≢ OldLayout)
older_or_not DiskFailed = inr (λ is. let no : DiskFailed ≡ OldLayout = is in cc)
older_or_not NotATable = inr (λ is. let no : NotATable ≡ OldLayout = is in cc)
older_or_not AlreadyATable = inr (λ is. let no : AlreadyATable ≡ OldLayout = is in cc)
older_or_not Damaged = inr (λ is. let no : Damaged ≡ OldLayout = is in cc)
older_or_not OldLayout = inl refl
older_or_not TooSmall = inr (λ is. let no : TooSmall ≡ OldLayout = is in cc)
older_or_not TableFull = inr (λ is. let no : TableFull ≡ OldLayout = is in cc)
older_or_not OutOfMemory = inr (λ is. let no : OutOfMemory ≡ OldLayout = is in cc)
older_or_not Closed = inr (λ is. let no : Closed ≡ OldLayout = is in cc)
older_or_not (Game fault) = inr (λ is. let no : Game fault ≡ OldLayout = is in cc)
older_or_not NoGame = inr (λ is. let no : NoGame ≡ OldLayout = is in cc)
older_or_not GameAlready = inr (λ is. let no : GameAlready ≡ OldLayout = is in cc)
older_or_not (KeeperChooses number) = inr (λ is. let no : KeeperChooses number ≡ OldLayout = is in cc)
older_or_not TooWide = inr (λ is. let no : TooWide ≡ OldLayout = is in cc)
older_or_not TooManyPositions = inr (λ is. let no : TooManyPositions ≡ OldLayout = is in cc)
older_or_not Inconsistent = inr (λ is. let no : Inconsistent ≡ OldLayout = is in cc)
older_or_not NoSuchPosition = inr (λ is. let no : NoSuchPosition ≡ OldLayout = is in cc)
older_or_not NotSettled = inr (λ is. let no : NotSettled ≡ OldLayout = is in cc)
older_or_not ListingsUsedUp = inr (λ is. let no : ListingsUsedUp ≡ OldLayout = is in cc)
older_or_not BadPosition = inr (λ is. let no : BadPosition ≡ OldLayout = is in cc)

module _ (First Second Today : ℕ → Layout) {BeforeFirst BeforeSecond BeforeToday : Older} {Copies : Type 0}
    (layouts : AreLayouts First Second BeforeFirst BeforeSecond BeforeToday Copies) (first disk : Disk) (count now : ℕ)
    (read : IsReadSince first count disk now) where
  -- the image begins as a table, and stores none
  abbrev StoresNone : Image → Type 0
  StoresNone image = IsTableImage image × ((kept : Option Kept) → ¬ Holds (in_any First) image kept)
      × ((kept : Option Kept) → ¬ Holds (in_any Second) image kept) × ((kept : Option Kept) → ¬ Holds (in_any Today) image kept)

  -- a file is not opened
  unopened : (From : ℕ → Layout) (IsOlder : Older) (later : ℕ)
      → (OpenCause From disk now later Damaged → LayoutCause IsOlder disk Damaged → IsTrue first.honest → StoresNone disk.now.contents)
      → (fault : SolverFault) → fault ≢ OldLayout → OpenCause From disk now later fault → LayoutCause IsOlder disk fault
      → MigrateCause First Second Today first count later fault
  unopened From IsOlder later damaged DiskFailed other cause older = grew_since read.from.failures cause
  unopened From IsOlder later damaged NotATable other cause older = λ honest.
      subst (λ (p : Image). ¬ IsTableImage p) (read.contents honest) (cause (still_honest read.from.goes_on honest))
  unopened From IsOlder later damaged AlreadyATable other cause older = absurd cause
  unopened From IsOlder later damaged Damaged other cause older = λ honest.
      subst (λ (p : Image). StoresNone p) (read.contents honest) (damaged cause older honest)
  unopened From IsOlder later damaged OldLayout other cause older = absurd (other refl)
  unopened From IsOlder later damaged TooSmall other cause older = absurd cause
  unopened From IsOlder later damaged TableFull other cause older = absurd cause
  unopened From IsOlder later damaged OutOfMemory other cause older = tt
  unopened From IsOlder later damaged Closed other cause older = absurd cause
  unopened From IsOlder later damaged (Game fault) other cause older = absurd cause
  unopened From IsOlder later damaged NoGame other cause older = absurd cause
  unopened From IsOlder later damaged GameAlready other cause older = absurd cause
  unopened From IsOlder later damaged (KeeperChooses number) other cause older = absurd cause
  unopened From IsOlder later damaged TooWide other cause older = absurd cause
  unopened From IsOlder later damaged TooManyPositions other cause older = absurd cause
  unopened From IsOlder later damaged Inconsistent other cause older = absurd cause
  unopened From IsOlder later damaged NoSuchPosition other cause older = absurd cause
  unopened From IsOlder later damaged NotSettled other cause older = absurd cause
  unopened From IsOlder later damaged ListingsUsedUp other cause older = absurd cause
  unopened From IsOlder later damaged BadPosition other cause older = absurd cause

  -- today's
  pub today_unopened : (later : ℕ) (fault : SolverFault) → fault ≢ OldLayout → OpenCause Today disk now later fault
      → LayoutCause BeforeToday disk fault → MigrateCause First Second Today first count later fault
  today_unopened later = unopened Today BeforeToday later (λ cause older honest.
      let here = still_honest read.from.goes_on honest in (
        (cause here).0,
        λ kept holds. older here (layouts.first_before holds.stores.0 disk.now.contents kept holds.stores.1).1,
        λ kept holds. older here (layouts.second_before holds.stores.0 disk.now.contents kept holds.stores.1),
        (cause here).1,
      ))

  -- what the first disk does not store this one does not
  none_here : (From : ℕ → Layout) → IsTrue first.honest → ((kept : Option Kept) → ¬ in_any From first.now.contents kept)
      → (kept : Option Kept) → ¬ Holds (in_any From) disk.now.contents kept
  none_here From honest none kept holds = none kept (subst (λ (p : Image). in_any From p kept) (read.contents honest) holds.stores)

  -- none of today's layout is there
  module _ (no_today : IsTrue first.honest → (kept : Option Kept) → ¬ in_any Today first.now.contents kept) where
    -- the second
    pub second_unopened : (later : ℕ) (fault : SolverFault) → fault ≢ OldLayout → OpenCause Second disk now later fault
        → LayoutCause BeforeSecond disk fault → MigrateCause First Second Today first count later fault
    second_unopened later = unopened Second BeforeSecond later (λ cause older honest.
        let here = still_honest read.from.goes_on honest in (
          (cause here).0,
          λ kept holds. older here (layouts.first_before holds.stores.0 disk.now.contents kept holds.stores.1).0,
          (cause here).1,
          none_here Today honest (no_today honest),
        ))

    -- none of the second is there either
    module _ (no_second : IsTrue first.honest → (kept : Option Kept) → ¬ in_any Second first.now.contents kept) where
      -- the first
      pub first_unopened : (later : ℕ) (fault : SolverFault) → fault ≢ OldLayout → OpenCause First disk now later fault
          → LayoutCause BeforeFirst disk fault → MigrateCause First Second Today first count later fault
      first_unopened later = unopened First BeforeFirst later (λ cause older honest.
          let here = still_honest read.from.goes_on honest in (
            (cause here).0,
            (cause here).1,
            none_here Second honest (no_second honest),
            none_here Today honest (no_today honest),
          ))

  -- a layout before the first is none
  pub first_older : (later : ℕ) → LayoutCause BeforeFirst disk OldLayout → MigrateCause First Second Today first count later Damaged
  first_older later older = λ honest. absurd (layouts.first_is_first disk.now.contents (older (still_honest read.from.goes_on honest)))

  -- it is opened, and not moved
  module _ (From : ℕ → Layout) (was : State) (opened : IsOpened From disk now was) (later : ℕ) where
    after : IsReadSince first count was.disk was.failures
    after = read_on first disk was.disk count now was.failures read opened.from opened.since

    -- the game that the disk holds
    held : (kept : Kept) → was.kept ≡ Some kept → IsTrue first.honest → Holds (in_any From) first.now.contents (Some kept)
    held kept is honest =
        let here = opened.holds (still_honest read.from.goes_on honest) in
        subst (λ (p : Image). Holds (in_any From) p (Some kept)) (read.contents honest)
        (subst (λ (k : Option Kept). Holds (in_any From) disk.now.contents k) is
        (record { stores = (was.capacity, here.stores); of_a_game = here.of_a_game }))

  second_moves : (was : State) → IsOpened Second disk now was → (later : ℕ) (why : FileFault) → MoveOnCause Copies was later why
      → MigrateCause First Second Today first count later (file_fault why)
  second_moves was opened later file.Disk cause = grew_since (after Second was opened later).from.failures cause
  second_moves was opened later file.NotATable cause = absurd (layouts.by_root cause.0)
  second_moves was opened later file.AlreadyATable cause = absurd (layouts.by_root cause.0)
  second_moves was opened later file.Damaged cause = absurd (layouts.by_root cause.0)
  second_moves was opened later file.OldLayout cause = absurd (layouts.by_root cause.0)
  second_moves was opened later file.TooSmall cause = absurd (layouts.by_root cause.0)
  second_moves was opened later file.TableFull cause = absurd (layouts.by_root cause.0)
  second_moves was opened later file.OutOfMemory cause = absurd (layouts.by_root cause.0)
  second_moves was opened later file.Closed cause = absurd (layouts.by_root cause.0)
  second_moves was opened later file.Inconsistent cause = absurd (layouts.by_root cause.0)

  first_moves : (Copied : Type 0) (was : State) → IsOpened First disk now was → (later : ℕ) (why : FileFault) → MoveOnCause Copied was later why
      → MigrateCause First Second Today first count later (file_fault why)
  first_moves Copied was opened later file.Disk cause = grew_since (after First was opened later).from.failures cause
  first_moves Copied was opened later file.NotATable cause = absurd cause.1
  first_moves Copied was opened later file.AlreadyATable cause = absurd cause.1
  first_moves Copied was opened later file.Damaged cause = λ honest.
      absurd (cause.1 (still_honest (after First was opened later).from.goes_on honest))
  first_moves Copied was opened later file.OldLayout cause = absurd cause.1
  first_moves Copied was opened later file.TooSmall cause = absurd cause.1
  first_moves Copied was opened later file.TableFull cause = λ honest.
      let some = some_is was.kept cause.1 in
      (some.0, held First was opened later some.0 some.1 honest)
  first_moves Copied was opened later file.OutOfMemory cause = tt
  first_moves Copied was opened later file.Closed cause = absurd cause.1
  first_moves Copied was opened later file.Inconsistent cause = λ honest.
      let short = cause.1 (still_honest (after First was opened later).from.goes_on honest) in
      (short.0, held First was opened later short.0 short.1 honest, short.2)

  pub second_unmoved : (back : Disk) (later : ℕ) (fault : SolverFault) → IsUnmoved Second Today Copies BeforeSecond disk now back later fault
      → MigrateCause First Second Today first count later fault
  second_unmoved back later fault it =
      subst (λ (f : SolverFault). MigrateCause First Second Today first count later f) (sym it.is)
      (second_moves it.was it.opened later it.why it.cause)

  pub first_unmoved : {Copied : Type 0} (back : Disk) (later : ℕ) (fault : SolverFault)
      → IsUnmoved First Today Copied BeforeFirst disk now back later fault → MigrateCause First Second Today first count later fault
  first_unmoved {Copied} back later fault it =
      subst (λ (f : SolverFault). MigrateCause First Second Today first count later f) (sym it.is)
      (first_moves Copied it.was it.opened later it.why it.cause)

  -- why a file of the second layout is not moved, and not of an earlier layout either
  pub second_cause : (back : Disk) (later : ℕ) (fault : SolverFault) → (IsTrue first.honest → (kept : Option Kept) → ¬ in_any Today first.now.contents kept)
      → fault ≢ OldLayout → IsNotMovedFrom Second Today Copies BeforeSecond disk now back later fault
      → MigrateCause First Second Today first count later fault
  second_cause back later fault no_today other (inl it) = second_unopened no_today later fault other it.cause it.older
  second_cause back later fault no_today other (inr it) = second_unmoved back later fault it

  -- what is so told of a file of the first layout
  pub first_cause : {Copied : Type 0} (back : Disk) (later : ℕ) (fault said : SolverFault)
      → (IsTrue first.honest → (kept : Option Kept) → ¬ in_any Today first.now.contents kept)
      → (IsTrue first.honest → (kept : Option Kept) → ¬ in_any Second first.now.contents kept)
      → (fault ≡ OldLayout → said ≡ Damaged) → (fault ≢ OldLayout → said ≡ fault)
      → IsNotMovedFrom First Today Copied BeforeFirst disk now back later fault → MigrateCause First Second Today first count later said
  first_cause back later fault said no_today no_second is_older is_other (inl it) = elim (older_or_not fault) [
    | inl older ↦ subst (λ (f : SolverFault). MigrateCause First Second Today first count later f) (sym (is_older older))
        (first_older later (subst (λ (f : SolverFault). LayoutCause BeforeFirst disk f) older it.older))
    | inr other ↦ subst (λ (f : SolverFault). MigrateCause First Second Today first count later f) (sym (is_other other))
        (first_unopened no_today no_second later fault other it.cause it.older)
  ]
  first_cause back later fault said no_today no_second is_older is_other (inr it) =
      subst (λ (f : SolverFault). MigrateCause First Second Today first count later f)
      (sym (is_other (unmoved_not_older disk back now later fault it))) (first_unmoved back later fault it)

-- an image of an earlier layout stores none of this one
pub none_by : (From : ℕ → Layout) (first disk : Disk) (count now later : ℕ) (fault : SolverFault) → fault ≡ OldLayout → IsReadSince first count disk now
    → OpenCause From disk now later fault → IsTrue first.honest → (kept : Option Kept) → ¬ in_any From first.now.contents kept
none_by From first disk count now later fault older read cause honest kept stored =
    subst (λ (f : SolverFault). OpenCause From disk now later f) older cause (still_honest read.from.goes_on honest) kept
    (subst (λ (p : Image). in_any From p kept) (sym (read.contents honest)) stored)

-- a file that is of an earlier layout still was read, and holds no table of this one
module _ (From To : ℕ → Layout) {Copies : Type 0} {IsOlder : Older} (first disk back : Disk) (count now later : ℕ) (fault : SolverFault)
    (older : fault ≡ OldLayout) (read : IsReadSince first count disk now) where
  pub read_again : IsNotMovedFrom From To Copies IsOlder disk now back later fault → IsReadSince first count back later
  read_again (inl it) = read_on first disk back count now later read it.left.from it.left.leaves
  read_again (inr it) = absurd (unmoved_not_older disk back now later fault it older)

  pub none_of_it : IsNotMovedFrom From To Copies IsOlder disk now back later fault → IsTrue first.honest
      → (kept : Option Kept) → ¬ in_any From first.now.contents kept
  none_of_it (inl it) = none_by From first disk count now later fault older read it.cause
  none_of_it (inr it) = λ honest kept stored. absurd (unmoved_not_older disk back now later fault it older)
