-- A file of the first layout is opened and its game looked at, and why it is not.
use Rattle.std.specs.Prelude.{Result, Ok, Err}
use Rattle.std.specs.Result.{IfOk, IfErr, OnOk}
use Rattle.std.proofs.Common.{◌≡◌, ◌↔◌, ◌≤◌, ◌^◌, ℕ, Bool, true, false, List, length, Option, Some, refl, sym, ap, subst}
use Rattle.std.proofs.lemmas.Option.{same_Some}
use Rattle.sector_disk.specs.Disk.{Disk}
use Rattle.page_store.specs.Store.{Store}
use Rattle.position_pack.specs.declared.limits.TheConstants.{MAX_PACKED}
use Rattle.rbg_game.specs.Games.{Game as TextGame}
use Rattle.rbg_game.specs.declared.limits.TheConstants.{MAX_TEXT_BYTES}
use Rattle.rbg_read.specs.Reads.{Reads}
use Rattle.retrograde.specs.Stored.{Stored}
use Rattle.legal_moves.specs.Compiled.{compiled_game, packing_kind}
use Rattle.legal_moves.specs.declared.compiled.Compiled.{Compiled}
use Rattle.game_table.specs.Tables.{ArePositions}
use Rattle.table.specs.Fit.{FitsTogether}
use Rattle.table.specs.InMemory.{stored_in}
use Rattle.game_file.specs.Calls.{IsNotOpened, IsOpenedFile}
use Rattle.game_file.specs.Causes.{FileOpenCause}
use Rattle.game_file.specs.Fields.{commits_in}
use Rattle.game_file.specs.Kept.{Kept, counts_kept, in_any}
use Rattle.game_file.specs.State.{State}
use Rattle.game_file.specs.declared.fault.FileFault.{FileFault}
use Rattle.game_file.specs.declared.fault.FileFault.TheVariants as file
use Rattle.earlier_layouts.specs.Calls.{file_of, state_of}
use Rattle.earlier_layouts.specs.File.{FlatFile, IsBacked, IsFile, IsGame, kept_in, kept_of}
use Rattle.earlier_layouts.specs.Held.{IsOlder, Stores}
use Rattle.earlier_layouts.specs.MoveCauses.{MoveCause}
use Rattle.earlier_layouts.specs.lemmas.ReadLaws.{an_image_stores_one_table}
use Rattle.earlier_layouts.specs.lemmas.StoredLaws.{a_file_is_kept}
use Rattle.earlier_layouts.specs.lemmas.Whole.{whole_asked}
use Rattle.earlier_layouts.specs.declared.game.Game.{Game}
use Rattle.solver.specs.Faults.{file_fault}
use Rattle.solver.specs.Held.{IsOfAGame}
use Rattle.solver.specs.Opened.{IsOpened}
use Rattle.solver.specs.lemmas.Ready.{NoGameCause}
use Rattle.solver.specs.declared.fault.SolverFault.{SolverFault}
use Rattle.solver.proofs.ReadyGame.{of_a_game, of_no_game}
use Rattle.solver.proofs.Opened.{no_game_older, no_game_opened, open_cause, open_older, opened, opened_back}
use Rattle.tree_table.specs.Held.{StoresTrees}
use Rattle.recover.specs.Moves.{IsUnopened, MoveOnCause}
use Rattle.recover.specs.lemmas.FirstLayout.{IsSameGame}

-- whether the positions are a game's is whether the table is of one
pub tells_game : (kept : Kept) (compiled : Compiled) (are : Bool) → Reads kept.text (compiled_game compiled) → packing_kind compiled ≡ kept.packing
    → ((game : TextGame) → Reads kept.text game → compiled_game compiled ≡ game)
    → ((are ≡ true) ↔ ArePositions (packing_kind compiled) (compiled_game compiled) kept.table) → (are ≡ true) ↔ IsOfAGame (Some kept)
tells_game kept compiled are is_read kind one tells = (
  of_a_game kept.text kept.packing compiled is_read kind kept.table are tells (Some kept) refl refl same_table,
  λ it. yes are tells it,
)
  where
    same_table : (k : Kept) → Some kept ≡ Some k → kept.table ≡ k.table
    same_table k is = ap (λ (x : Kept). x.table) (same_Some kept k is)

    yes : (b : Bool) → ((b ≡ true) ↔ ArePositions (packing_kind compiled) (compiled_game compiled) kept.table) → IsOfAGame (Some kept) → b ≡ true
    yes true tells it = refl
    yes false tells it =
        absurd (of_no_game kept.text kept.packing compiled is_read kind kept.table false tells (Some kept) refl refl same_table one refl it)

-- what is stated of a file with these pages that keeps this
abbrev with_kept : Store → Option Kept → State
with_kept store kept = record {
  disk = store.disk;
  failures = store.failures;
  capacity = length store.marks;
  closed = store.closed;
  commits = commits_in store.root;
  counts = counts_kept kept;
  kept = kept;
}

module _ (was is : Game) (same : IsSameGame was is) where
  same_game : IsGame was → IsGame is
  same_game it =
      let table : stored_in is.table ≡ stored_in was.table = ap (λ (k : Kept). k.table) same.kept in
      let text : is.text.items ≡ was.text.items = ap (λ (k : Kept). k.text) same.kept in
      record {
        fits = subst (λ (n : ℕ). FitsTogether n (stored_in is.table)) (sym same.packed)
            (subst (λ (t : Stored (List ℕ)). FitsTogether was.packed t) (sym table) it.fits);
        known = subst (λ (t : Stored (List ℕ)). length t.positions ≤ 2 ^ 24) (sym table) it.known;
        text = subst (λ (x : List ℕ). length x ≤ MAX_TEXT_BYTES) (sym text) it.text;
        packed = subst (λ (n : ℕ). n ≤ MAX_PACKED) (sym same.packed) it.packed;
      }

  -- a file whose game was only looked at is whole where it was, and in the same state
  pub same_whole : (store : Store) → IsFile (file_of store (Some was)) → IsFile (file_of store (Some is))
  same_whole store it = record {
    sound = it.sound;
    games = same_game it.games;
    backed = subst (λ (pages : List ℕ). IsBacked store pages (Some (kept_in is))) (sym same.pages)
        (subst (λ (k : Kept). IsBacked store was.pages.items (Some k)) (sym same.kept) it.backed);
  }

  pub same_state : (store : Store) → state_of (file_of store (Some is)) ≡ state_of (file_of store (Some was))
  same_state store = ap (λ (k : Kept). with_kept store (Some k)) same.kept

module _ (disk : Disk) (count : ℕ) (file : FlatFile) (whole : IsFile file) (found : IsOpenedFile Stores disk count (state_of file)) where
  -- the file is opened, and its game is one
  pub opened_first : {X E : Type 0} (r : Result X E) (state : X → State) → OnOk r (IsOfAGame (kept_of file.game))
      → IfOk r (λ t. state t ≡ state_of file) → IfOk r (λ t. IsOpened Stores disk count (state t))
  opened_first (Ok t) state of same = subst (λ (s : State). IsOpened Stores disk count s) (sym same)
      (opened Stores disk count (state_of file) an_image_stores_one_table found (λ honest. of) (state_of file) (whole_asked file whole)
      (λ honest is_open. a_file_is_kept file whole honest is_open))
  opened_first (Err e) state of same = tt

  -- or it has none, and the disk comes back
  pub no_game_first : {X E : Type 0} (r : Result X E) (disk_of : E → Disk) (failures_of : E → ℕ) (fault_of : E → SolverFault)
      → IfErr r (λ back. disk_of back ≡ (state_of file).disk) → IfErr r (λ back. failures_of back ≡ (state_of file).failures)
      → IfErr r (λ back. NoGameCause (state_of file) (failures_of back) (fault_of back))
      → IfErr r (λ back. IsUnopened Stores (StoresTrees 3) (Unit {0}) IsOlder disk count (disk_of back) (failures_of back) (fault_of back))
  no_game_first (Ok t) disk_of failures_of fault_of same many cause = tt
  no_game_first (Err e) disk_of failures_of fault_of same many cause = record {
    left = opened_back Stores disk count (state_of file) (disk_of e) (failures_of e) found
        (record { later = state_of file; asked = whole_asked file whole; disk = same; failures = many });
    cause = no_game_opened Stores disk count (state_of file) (failures_of e) (fault_of e) an_image_stores_one_table
        (λ pages image kept it. it.holds.table) found cause;
    older = no_game_older Stores disk count (state_of file) IsOlder (λ pages image kept older it. older) (failures_of e) (fault_of e) found cause;
  }

-- the file is not read
pub unread_first : (disk back : Disk) (count now : ℕ) (fault : FileFault) (said : SolverFault) → said ≡ file_fault fault → IsNotOpened disk count back now
    → FileOpenCause (in_any Stores) IsOlder disk count now fault → IsUnopened Stores (StoresTrees 3) (Unit {0}) IsOlder disk count back now said
unread_first disk back count now fault said is left cause =
    subst (λ (f : SolverFault). IsUnopened Stores (StoresTrees 3) (Unit {0}) IsOlder disk count back now f) (sym is)
    (record {
      left = left;
      cause = open_cause Stores IsOlder (λ pages image kept older it. older) disk count now fault cause;
      older = open_older Stores IsOlder disk count now fault cause;
    })

-- its table was copied
pub by_copy : (old : State) (now : ℕ) (fault : FileFault) → MoveCause old now fault → MoveOnCause (Unit {0}) old now fault
by_copy old now file.Disk cause = cause
by_copy old now file.NotATable cause = (tt, cause)
by_copy old now file.AlreadyATable cause = (tt, cause)
by_copy old now file.Damaged cause = (tt, cause)
by_copy old now file.OldLayout cause = (tt, cause)
by_copy old now file.TooSmall cause = (tt, cause)
by_copy old now file.TableFull cause = (tt, cause)
by_copy old now file.OutOfMemory cause = (tt, cause)
by_copy old now file.Closed cause = (tt, cause)
by_copy old now file.Inconsistent cause = (tt, cause)
