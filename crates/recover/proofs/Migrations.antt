-- How the steps of a migration make one.
use Rattle.std.proofs.Common.{◌≡◌, ◌≢◌, ◌≤◌, inl, inr, ℕ, Option, IsTrue, sym, ◌∙◌, ap, subst}
use Rattle.sector_disk.specs.Disk.{Image, Disk, Steps, SyncedMore, sector}
use Rattle.sector_disk.specs.lemmas.Moments.{leaves_more, leaves_then, still_honest}
use Rattle.page_store.specs.lemmas.Works.{grew_since}
use Rattle.game_file.specs.Calls.{IsNotOpened}
use Rattle.game_file.specs.Kept.{Kept, Layout, Older}
use Rattle.game_file.specs.State.{State}
use Rattle.solver.specs.declared.fault.SolverFault.{SolverFault}
use Rattle.solver.specs.declared.fault.SolverFault.TheVariants.{OldLayout}
use Rattle.solver.specs.Faults.{file_fault}
use Rattle.solver.specs.Held.{Holds}
use Rattle.solver.specs.Opened.{IsOpened}
use Rattle.recover.specs.Migrations.{IsMigrated, IsCurrent, IsNotMigrated}
use Rattle.recover.specs.Moves.{IsMovedFrom, IsNotMovedFrom, IsUnmoved, IsUnopened}
use Rattle.recover.specs.lemmas.Steps.{IsReadSince}
use Rattle.recover.proofs.SyncedReads.{from_then, read_on, sync_from, sync_leaves}
use Rattle.recover.proofs.Refusals.{unmoved_not_older}

-- an image of the same contents has the same header
header_of : {old new : Image} → new ≡ old → sector new 0 ≡ sector old 0
header_of same = ap (λ (p : Image). sector p 0) same

-- the table was in today's layout
pub is_current : (Earlier Today : ℕ → Layout) (first disk : Disk) (count now : ℕ) (was : State) → IsReadSince first count disk now
    → IsOpened Today disk now was → IsCurrent Earlier Today first count was.disk was.failures
is_current Earlier Today first disk count now was read opened =
    let after = read_on first disk was.disk count now was.failures read opened.from opened.since in
    record {
      from = after.from;
      header = λ honest. header_of (after.contents honest);
      pages = was.capacity;
      kept = was.kept;
      held = λ honest.
          subst (λ (p : Image). Holds (Today was.capacity) p was.kept) (read.contents honest)
          (opened.holds (still_honest read.from.goes_on honest));
      leaves = after.leaves;
      is = λ honest. opened.now (still_honest read.from.goes_on honest);
    }

-- a file is not opened
pub still_there : (Earlier Today : ℕ → Layout) (first disk back : Disk) (count now later : ℕ) (said : SolverFault) → IsReadSince first count disk now
    → IsNotOpened disk now back later → IsNotMigrated Earlier Today first count back later said
still_there Earlier Today first disk back count now later said read left =
    let seen = read_on first disk back count now later read left.from left.leaves in
    record {
      from = seen.from;
      header = λ honest. header_of (seen.contents honest);
      leaves = λ honest other. leaves_more (λ image may. inl may) (seen.leaves honest);
      unwritten = λ honest spared. leaves_more (λ image may. inl may) (seen.leaves honest);
      either = λ honest. leaves_more (λ image may. inl (inl may)) (seen.leaves honest);
    }

-- the disk cannot be synced
pub not_synced : (Earlier Today : ℕ → Layout) (first back : Disk) (count later : ℕ) (said : SolverFault) → Steps first back → count ≤ later
    → (IsTrue first.honest → SyncedMore first.now back.now) → IsNotMigrated Earlier Today first count back later said
not_synced Earlier Today first back count later said steps le same =
    let leaves = sync_leaves first back count later steps le same in
    record {
      from = sync_from first back count later steps le same;
      header = λ honest. header_of (same honest).contents;
      leaves = λ honest other. leaves_more (λ image may. inl may) (leaves honest);
      unwritten = λ honest spared. leaves_more (λ image may. inl may) (leaves honest);
      either = λ honest. leaves_more (λ image may. inl (inl may)) (leaves honest);
    }

module _ (From Earlier Today : ℕ → Layout) (side : (pages : ℕ) (image : Image) (kept : Option Kept) → From pages image kept → Earlier pages image kept)
    (first disk back : Disk) (count now later : ℕ) (read : IsReadSince first count disk now) where
  -- the table is opened in its layout
  module _ (was : State) (opened : IsOpened From disk now was) where
    after : IsReadSince first count was.disk was.failures
    after = read_on first disk was.disk count now was.failures read opened.from opened.since

    held : IsTrue first.honest → Holds (Earlier was.capacity) first.now.contents was.kept
    held honest =
        let here = opened.holds (still_honest read.from.goes_on honest) in
        record {
          stores = side was.capacity first.now.contents was.kept
              (subst (λ (p : Image). From was.capacity p was.kept) (read.contents honest) here.stores);
          of_a_game = here.of_a_game;
        }

  pub is_migrated : {Copies : Type 0} {IsOlder : Older} → IsMovedFrom From Today Copies IsOlder disk now back later
      → IsMigrated Earlier Today first count back later
  is_migrated it =
      let seen = after it.was it.opened in
      record {
        from = from_then seen.from it.moved.from;
        header = λ honest. it.moved.header (still_honest seen.from.goes_on honest) ∙ header_of (seen.contents honest);
        pages = it.was.capacity;
        kept = it.was.kept;
        held = held it.was it.opened;
        leaves = λ honest.
            leaves_then it.moved.from.goes_on (leaves_more (λ image left. inl left) (seen.leaves honest))
            (leaves_more (λ image left. elim left [
              | inl old ↦ inr (inl (side it.was.capacity image it.was.kept old))
              | inr new ↦ inr (inr new)
            ]) (it.moved.leaves (still_honest seen.from.goes_on honest)));
        is = λ honest. it.moved.now (still_honest seen.from.goes_on honest);
      }

  -- it is not opened
  pub not_opened : {Copies : Type 0} {IsOlder : Older} (fault said : SolverFault) → IsUnopened From Today Copies IsOlder disk now back later fault
      → IsNotMigrated Earlier Today first count back later said
  not_opened fault said it = still_there Earlier Today first disk back count now later said read it.left

  -- or not moved
  pub not_moved : {Copies : Type 0} {IsOlder : Older} (fault : SolverFault) → IsUnmoved From Today Copies IsOlder disk now back later fault
      → IsNotMigrated Earlier Today first count back later fault
  not_moved fault it =
      let seen = after it.was it.opened in
      let had = held it.was it.opened in
      record {
        from = from_then seen.from it.left.from;
        header = λ honest. it.left.header (still_honest seen.from.goes_on honest) ∙ header_of (seen.contents honest);
        leaves = λ honest other.
            leaves_then it.left.from.goes_on (leaves_more (λ image left. inl left) (seen.leaves honest))
            (leaves_more (λ image left. inr (it.was.capacity, it.was.kept, had honest, side it.was.capacity image it.was.kept left))
            (it.left.leaves (still_honest seen.from.goes_on honest) it.opened.is_open (λ is. other (it.is ∙ ap file_fault is))));
        unwritten = λ honest spared.
            leaves_then it.left.from.goes_on (leaves_more (λ image left. inl left) (seen.leaves honest))
            (leaves_more (λ image left. inr (it.was.capacity, it.was.kept, had honest, side it.was.capacity image it.was.kept left))
            (it.left.unwritten (still_honest seen.from.goes_on honest) it.opened.is_open
            (λ grew. spared (grew_since seen.from.goes_on.failed_writes grew))));
        either = λ honest.
            leaves_then it.left.from.goes_on (leaves_more (λ image left. inl (inl left)) (seen.leaves honest))
            (leaves_more (λ image left. elim left [
              | inl old ↦ inl (inr (it.was.capacity, it.was.kept, had honest, side it.was.capacity image it.was.kept old))
              | inr new ↦ inr (it.was.capacity, it.was.kept, had honest, new)
            ]) (it.left.either (still_honest seen.from.goes_on honest) it.opened.is_open));
      }

  -- it is refused
  pub not_migrated : {Copies : Type 0} {IsOlder : Older} (fault : SolverFault) → IsNotMovedFrom From Today Copies IsOlder disk now back later fault
      → IsNotMigrated Earlier Today first count back later fault
  not_migrated fault (inl it) = not_opened fault fault it
  not_migrated fault (inr it) = not_moved fault it

  -- and told as another refusal where it is not opened
  pub not_migrated_so : {Copies : Type 0} {IsOlder : Older} (fault said : SolverFault) → (fault ≢ OldLayout → said ≡ fault)
      → IsNotMovedFrom From Today Copies IsOlder disk now back later fault → IsNotMigrated Earlier Today first count back later said
  not_migrated_so fault said other (inl it) = not_opened fault said it
  not_migrated_so fault said other (inr it) =
      subst (λ (f : SolverFault). IsNotMigrated Earlier Today first count back later f)
      (sym (other (unmoved_not_older disk back now later fault it))) (not_moved fault it)
