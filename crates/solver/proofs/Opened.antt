-- The game of a table is made ready as a file is opened.
use Rattle.std.proofs.Common.{◌≡◌, ◌≤◌, inl, inr, ℕ, Option, sym, ◌∙◌, subst, arith}
use Rattle.std.specs.Prelude.{IsTrue, Result, Ok, Err}
use Rattle.std.specs.Result.{IfErr, IfOk, OnOk}
use Rattle.sector_disk.specs.Disk.{Image, Disk, LeavesOnly, MayLeave, Grew}
use Rattle.sector_disk.specs.declared.disk.SectorDisk.{Ghosts as OfDisk}
use Rattle.sector_disk.specs.lemmas.Moments.{goes_on_trans, leaves_then, leaves_more, still_honest}
use Rattle.root_pair.specs.Root.{IsTableImage}
use Rattle.game_file.specs.Calls.{IsOpenedFile, IsNotOpened, IsCreatedFile, IsNotCreated, IsAsked}
use Rattle.game_file.specs.Causes.{FileOpenCause, FileCreateCause}
use Rattle.game_file.specs.Kept.{Kept, Layout, Older, in_any}
use Rattle.game_file.specs.State.{State, GoesFrom}
use Rattle.game_file.specs.Stops.{OldOrEmpty}
use Rattle.table.specs.declared.table.Table.{Ghosts as OfTable}
use Rattle.game_file.specs.declared.file.GameFile.{Ghosts as OfFile}
use Rattle.game_file.specs.declared.fault.FileFault.{FileFault}
use Rattle.game_file.specs.declared.fault.FileFault.TheVariants as file
use Rattle.solver.specs.declared.commands.FileSolver.{FileSolver}
use Rattle.solver.specs.declared.fault.SolverFault.{SolverFault}
use Rattle.solver.specs.declared.fault.SolverFault.TheVariants.{Disk as DiskFailed, NotATable, AlreadyATable, Damaged, OldLayout, TooSmall, TableFull, OutOfMemory, Closed, Game, NoGame, GameAlready, KeeperChooses, TooWide, TooManyPositions, Inconsistent, NoSuchPosition, NotSettled, ListingsUsedUp, BadPosition}
use Rattle.solver.specs.Faults.{file_fault}
use Rattle.solver.specs.Frames.{IsOpenedOn, IsNotOpenedFor}
use Rattle.solver.specs.Held.{IsOfAGame}
use Rattle.solver.specs.Opened.{IsOpened, IsCreated, OpenCause, LayoutCause, CreateCause}
use Rattle.solver.specs.Solvers.{state, IsReady}
use Rattle.solver.specs.lemmas.Ready.{NoGameCause, IsHandedBack}
use Rattle.solver.proofs.Chains.{opened_so, opens_or_fails}
use Rattle.solver.proofs.Loads.{Leaves}
use Rattle.solver.proofs.Refusals.{apart}

-- an image stores one table at most, in whatever number of pages
abbrev pub StoresOne : (ℕ → Layout) → Type 0
StoresOne Stores = (m n : ℕ) (image : Image) (one other : Option Kept) → Stores m image one → Stores n image other → one ≡ other

-- an image of an earlier layout stores none
abbrev pub OlderStoresNone : (ℕ → Layout) → Older → Type 0
OlderStoresNone Stores IsOlder = (pages : ℕ) (image : Image) (kept : Option Kept) → IsOlder image → Stores pages image kept → ⊥

-- an image that stores a table begins as each table does
abbrev pub StoresBegins : (ℕ → Layout) → Type 0
StoresBegins Stores = (pages : ℕ) (image : Image) (kept : Option Kept) → Stores pages image kept → IsTableImage image

-- a count that grew from a later one on grew
grew_from : {before mid now : ℕ} → before ≤ mid → Grew mid now → Grew before now
grew_from le (inl less) = inl (omega (arith, le, less))
grew_from le (inr most) = inr most

module _ (Stores : ℕ → Layout) (disk : Disk) (count : ℕ) (file : State) where
  from_first : GoesFrom disk count file.disk file.failures → (later : State) → IsAsked Stores file later → GoesFrom disk count later.disk later.failures
  from_first from later asked = record {
    goes_on = goes_on_trans from.goes_on asked.ahead.goes_on;
    failures = omega (arith, from.failures, asked.ahead.failures);
    same_size = asked.ahead.same_size ∙ from.same_size;
  }

  -- the file is opened, and its game read
  pub opened : StoresOne Stores → IsOpenedFile Stores disk count file → (IsTrue file.disk.honest → IsOfAGame file.kept)
      → (later : State) → IsAsked Stores file later → Leaves Stores later → IsOpened Stores disk count later
  opened one found of_a_game later asked leaves = record {
    from = from_first found.from later asked;
    is_open = asked.closed ∙ found.is_open;
    holds = λ honest.
        let here = still_honest found.from.goes_on honest in
        record {
          stores = subst (λ (pages : ℕ). Stores pages disk.now.contents later.kept) (sym asked.ahead.capacity)
              (subst (λ (kept : Option Kept). Stores file.capacity disk.now.contents kept) (sym (asked.kept here)) (found.stored honest));
          of_a_game = subst (λ (kept : Option Kept). IsOfAGame kept) (sym (asked.kept here)) (of_a_game here);
        };
    only = λ honest kept holds.
        asked.kept (still_honest found.from.goes_on honest) ∙
        (one file.capacity holds.stores.0 disk.now.contents file.kept kept (found.stored honest) holds.stores.1);
    since = since found asked;
    now = λ honest. leaves (still_honest (goes_on_trans found.from.goes_on asked.ahead.goes_on) honest) (asked.closed ∙ found.is_open);
  }
    where
      since : IsOpenedFile Stores disk count file → {later : State} → IsAsked Stores file later → IsTrue disk.honest
          → LeavesOnly disk later.disk (MayLeave disk.now)
      since found asked honest =
          leaves_then asked.ahead.goes_on (found.leaves honest)
          (leaves_more (λ image left. (found.leaves honest).present image left)
          (asked.leaves (still_honest found.from.goes_on honest)))

  -- the disk as it comes back, because the text is no game or a position is not one of its positions
  pub opened_back : (back : Disk) (now : ℕ) → IsOpenedFile Stores disk count file → IsHandedBack Stores file back now → IsNotOpened disk count back now
  opened_back back now found it =
      subst (λ (d : Disk). IsNotOpened disk count d now) (sym it.disk)
      (subst (λ (n : ℕ). IsNotOpened disk count it.later.disk n) (sym it.failures)
      (record {
        from = from_first found.from it.later it.asked;
        leaves = λ honest.
            leaves_then it.asked.ahead.goes_on (found.leaves honest)
            (leaves_more (λ image left. (found.leaves honest).present image left)
            (it.asked.leaves (still_honest found.from.goes_on honest)));
      }))

  pub no_game_opened : (now : ℕ) (fault : SolverFault) → StoresOne Stores → StoresBegins Stores → IsOpenedFile Stores disk count file
      → NoGameCause file now fault
      → OpenCause Stores disk count now fault
  no_game_opened now DiskFailed one begins found cause = grew_from found.from.failures cause
  no_game_opened now NotATable one begins found cause = absurd cause
  no_game_opened now AlreadyATable one begins found cause = cause
  no_game_opened now Damaged one begins found cause = λ honest. (
    begins file.capacity disk.now.contents file.kept (found.stored honest),
    λ kept holds.
        cause (still_honest found.from.goes_on honest)
        (subst (λ (k : Option Kept). IsOfAGame k)
        (one holds.stores.0 file.capacity disk.now.contents kept file.kept holds.stores.1 (found.stored honest)) holds.of_a_game),
  )
  no_game_opened now OldLayout one begins found cause = absurd cause
  no_game_opened now TooSmall one begins found cause = cause
  no_game_opened now TableFull one begins found cause = cause
  no_game_opened now OutOfMemory one begins found cause = tt
  no_game_opened now Closed one begins found cause = apart file.closed found.is_open cause
  no_game_opened now (Game fault) one begins found cause = cause
  no_game_opened now NoGame one begins found cause = cause
  no_game_opened now GameAlready one begins found cause = cause
  no_game_opened now (KeeperChooses number) one begins found cause = cause
  no_game_opened now TooWide one begins found cause = cause
  no_game_opened now TooManyPositions one begins found cause = cause
  no_game_opened now Inconsistent one begins found cause = cause
  no_game_opened now NoSuchPosition one begins found cause = cause
  no_game_opened now NotSettled one begins found cause = cause
  no_game_opened now ListingsUsedUp one begins found cause = absurd cause
  no_game_opened now BadPosition one begins found cause = cause

  -- its table has no earlier layout
  pub no_game_older : (IsOlder : Older) → OlderStoresNone Stores IsOlder → (now : ℕ) (fault : SolverFault) → IsOpenedFile Stores disk count file
      → NoGameCause file now fault → LayoutCause IsOlder disk fault
  no_game_older IsOlder none now OldLayout found cause = absurd cause
  no_game_older IsOlder none now Damaged found cause = λ honest older. none file.capacity disk.now.contents file.kept older (found.stored honest)
  no_game_older IsOlder none now fault found cause = tt

  -- what a stop since the making leaves
  created_since : IsCreatedFile Stores disk count file → {later : State} → IsAsked Stores file later → IsTrue disk.honest
      → LeavesOnly disk later.disk (OldOrEmpty (Stores later.capacity) disk.now)
  created_since made {later} asked honest =
      subst (λ (pages : ℕ). LeavesOnly disk later.disk (OldOrEmpty (Stores pages) disk.now)) (sym asked.ahead.capacity)
      (leaves_then asked.ahead.goes_on (made.leaves honest)
      (leaves_more (λ image left. (made.leaves honest).present image left)
      (asked.leaves (still_honest made.from.goes_on honest))))

  pub created : IsCreatedFile Stores disk count file → (later : State) → IsAsked Stores file later → Leaves Stores later → IsCreated Stores disk count later
  created made later asked leaves = record {
    from = from_first made.from later asked;
    capacity = asked.ahead.capacity ∙ made.capacity;
    is_open = asked.closed ∙ made.is_open;
    empty = λ honest. asked.kept (still_honest made.from.goes_on honest) ∙ made.empty honest;
    fresh = made.fresh;
    since = created_since made asked;
    now = λ honest image left.
        subst (λ (kept : Option Kept). Stores later.capacity image kept) (asked.kept (still_honest made.from.goes_on honest) ∙ made.empty honest)
        (leaves (still_honest (goes_on_trans made.from.goes_on asked.ahead.goes_on) honest) (asked.closed ∙ made.is_open) image left);
  }

  pub created_back : (back : Disk) (now : ℕ) → IsCreatedFile Stores disk count file → IsHandedBack Stores file back now
      → IsNotCreated Stores disk count back now
  created_back back now made it =
      subst (λ (d : Disk). IsNotCreated Stores disk count d now) (sym it.disk)
      (subst (λ (n : ℕ). IsNotCreated Stores disk count it.later.disk n) (sym it.failures)
      (record {
        from = from_first made.from it.later it.asked;
        leaves = λ honest.
            subst (λ (pages : ℕ). LeavesOnly disk it.later.disk (OldOrEmpty (Stores pages) disk.now)) (it.asked.ahead.capacity ∙ made.capacity)
            (created_since made it.asked honest);
        kept = λ honest begins. absurd (made.fresh honest begins);
      }))

  pub no_game_created : (now : ℕ) (fault : SolverFault) → IsCreatedFile Stores disk count file → NoGameCause file now fault → CreateCause disk count now fault
  no_game_created now DiskFailed made cause = grew_from made.from.failures cause
  no_game_created now NotATable made cause = absurd cause
  no_game_created now AlreadyATable made cause = absurd cause
  no_game_created now Damaged made cause = λ honest.
      cause (still_honest made.from.goes_on honest) (subst (λ (k : Option Kept). IsOfAGame k) (sym (made.empty honest)) tt)
  no_game_created now OldLayout made cause = absurd cause
  no_game_created now TooSmall made cause = absurd cause
  no_game_created now TableFull made cause = cause
  no_game_created now OutOfMemory made cause = tt
  no_game_created now Closed made cause = apart file.closed made.is_open cause
  no_game_created now (Game fault) made cause = cause
  no_game_created now NoGame made cause = cause
  no_game_created now GameAlready made cause = cause
  no_game_created now (KeeperChooses number) made cause = cause
  no_game_created now TooWide made cause = cause
  no_game_created now TooManyPositions made cause = cause
  no_game_created now Inconsistent made cause = cause
  no_game_created now NoSuchPosition made cause = cause
  no_game_created now NotSettled made cause = cause
  no_game_created now ListingsUsedUp made cause = absurd cause
  no_game_created now BadPosition made cause = cause

module _ (Stores : ℕ → Layout) (IsOlder : Older) where
  -- a file that is not opened is no solver
  pub open_cause : OlderStoresNone Stores IsOlder → (disk : Disk) (count now : ℕ) (fault : FileFault)
      → FileOpenCause (in_any Stores) IsOlder disk count now fault
      → OpenCause Stores disk count now (file_fault fault)
  open_cause none disk count now file.Disk cause = cause
  open_cause none disk count now file.NotATable cause = cause
  open_cause none disk count now file.AlreadyATable cause = cause
  open_cause none disk count now file.Damaged cause = λ honest. ((cause honest).0, λ kept holds. (cause honest).1 kept holds.stores)
  open_cause none disk count now file.OldLayout cause = λ honest kept stores. none stores.0 disk.now.contents kept (cause honest) stores.1
  open_cause none disk count now file.TooSmall cause = cause
  open_cause none disk count now file.TableFull cause = cause
  open_cause none disk count now file.OutOfMemory cause = cause
  open_cause none disk count now file.Closed cause = cause
  open_cause none disk count now file.Inconsistent cause = cause

  -- and which layout it has is told
  pub open_older : (disk : Disk) (count now : ℕ) (fault : FileFault) → FileOpenCause (in_any Stores) IsOlder disk count now fault
      → LayoutCause IsOlder disk (file_fault fault)
  open_older disk count now file.Damaged cause = λ honest. (cause honest).2
  open_older disk count now file.OldLayout cause = cause
  open_older disk count now fault cause = tt

-- a file that is not made is none
pub create_cause : (disk : Disk) (count now : ℕ) (fault : FileFault) → FileCreateCause disk count now fault → CreateCause disk count now (file_fault fault)
create_cause disk count now file.Disk cause = cause
create_cause disk count now file.NotATable cause = cause
create_cause disk count now file.AlreadyATable cause = cause
create_cause disk count now file.Damaged cause = cause
create_cause disk count now file.OldLayout cause = cause
create_cause disk count now file.TooSmall cause = cause
create_cause disk count now file.TableFull cause = cause
create_cause disk count now file.OutOfMemory cause = cause
create_cause disk count now file.Closed cause = cause
create_cause disk count now file.Inconsistent cause = cause

-- a solver over a file that was opened
pub opened_with : {X E : Type 0} (Stores : ℕ → Layout) (disk : Disk) (count : ℕ) (file : State) (r : Result X E) (state : X → State) (IsReady : X → Type 0)
    → StoresOne Stores → IsOpenedFile Stores disk count file → (IsTrue file.disk.honest → OnOk r (IsOfAGame file.kept))
    → IfOk r (λ x. IsAsked Stores file (state x)) → IfOk r IsReady
    → ((x : X) → IsReady x → Leaves Stores (state x)) → IfOk r (λ x. IsOpened Stores disk count (state x))
opened_with Stores disk count file (Ok x) state IsReady one found of_a_game asked ready leaves =
    opened Stores disk count file one found of_a_game (state x) asked (leaves x ready)
opened_with Stores disk count file (Err e) state IsReady one found of_a_game asked ready leaves = tt

-- and over one that was made
pub created_with : {X E : Type 0} (Stores : ℕ → Layout) (disk : Disk) (count : ℕ) (file : State) (r : Result X E) (state : X → State) (IsReady : X → Type 0)
    → IsCreatedFile Stores disk count file → IfOk r (λ x. IsAsked Stores file (state x)) → IfOk r IsReady
    → ((x : X) → IsReady x → Leaves Stores (state x)) → IfOk r (λ x. IsCreated Stores disk count (state x))
created_with Stores disk count file (Ok x) state IsReady made asked ready leaves = created Stores disk count file made (state x) asked (leaves x ready)
created_with Stores disk count file (Err e) state IsReady made asked ready leaves = tt

-- a solver as `open` gives it
pub opened_on : {E F Device : Type 0} {layout : OfFile F Device} {table : OfTable F} {disk : OfDisk Device} (on : Disk) (count : ℕ)
    (r : Result (FileSolver F Device layout table disk) E) → IfOk r IsReady
    → IfOk r (λ solver. IsOpened layout.stores on count (state solver)) → IfOk r (IsOpenedOn on count)
opened_on {layout = layout} on count (Ok solver) ready opened = record {
  ready = ready;
  opened = opened;
  gives = λ kept honest holds. opened_so layout.stores on count (state solver) kept honest holds opened;
}
opened_on on count (Err e) ready opened = tt

-- why a file that is opened is given back
pub not_opened_for : (Stores : ℕ → Layout) (IsOlder : Older) → StoresBegins Stores → (on : Disk) (count : ℕ) (back : Disk) (now : ℕ) (fault : SolverFault)
    → IsNotOpened on count back now → OpenCause Stores on count now fault → LayoutCause IsOlder on fault → IsNotOpenedFor Stores IsOlder on count back now fault
not_opened_for Stores IsOlder begins on count back now fault refused cause older = record {
  unlucky = λ kept honest holds. opens_or_fails Stores begins on count now kept fault honest holds cause;
  refused = refused;
  cause = cause;
  older = older;
}

pub both_refused : {X E : Type 0} (r : Result X E) (P Q S : E → Type 0) → ((e : E) → P e → Q e → S e) → IfErr r P → IfErr r Q → IfErr r S
both_refused (Ok x) P Q S both one other = tt
both_refused (Err e) P Q S both one other = both e one other
