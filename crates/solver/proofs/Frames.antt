-- What the calls on a solver leave, one after the other, and how a refusal is handed on.
use Rattle.std.proofs.Common.{◌≡◌, ℕ, List, Option, None, Some, Result, Err, refl, subst}
use Rattle.std.specs.Prelude.{IsSome, IfErr, IsTrue}
use Rattle.std.specs.Result.{IsErr, IsErrAnd}
use Rattle.sector_disk.specs.declared.disk.SectorDisk.{Ghosts as OfDisk}
use Rattle.sector_disk.specs.lemmas.Moments.{still_honest}
use Rattle.table.specs.declared.table.Table.{Ghosts as OfTable}
use Rattle.legal_moves.specs.declared.compiled.Compiled.{Compiled}
use Rattle.game_file.specs.Calls.{IsAsked}
use Rattle.game_file.specs.Kept.{Kept, goal_kept, packing_kept, text_kept}
use Rattle.game_file.specs.State.{State, GoesAhead}
use Rattle.game_file.specs.declared.file.GameFile.{Ghosts as OfFile}
use Rattle.solver.specs.declared.commands.FileSolver.{FileSolver}
use Rattle.solver.specs.declared.fault.SolverFault.{SolverFault}
use Rattle.solver.specs.declared.fault.SolverFault.TheVariants.{TableFull}
use Rattle.solver.specs.Frames.{HasGame, NeedsGame, HasNoGame, NeedsNoGame, IsOnlyAsked, IsUntold, IsLeft, IsNotLoaded, IsNotWorked}
use Rattle.solver.specs.Machine.{load, work, IsShortOfPages}
use Rattle.solver.specs.Solvers.{state, IsReady}
use Rattle.solver.specs.State.{IsMadeOf, IsSourceOf}
use Rattle.solver.specs.Steps.{IsRefused}
use Rattle.solver.proofs.Loads.{same_source}
use Rattle.solver.proofs.Exits.{passed_on, passed_as}
use Rattle.solver.proofs.Refusals.{apart}
use Rattle.solver.proofs.Turns.{ahead_then}
use Rattle.solver.proofs.Work.{kept_there}

pub some_or_none : {A B : Type 0} (o : Option A) → IsSome o → o ≡ None → B
some_or_none None some none = absurd (cc)
some_or_none (Some x) some none = absurd (cc)

-- what is kept is what was
abbrev pub KeepsAll : State → State → Type 0
KeepsAll was is = (text_kept is.kept ≡ text_kept was.kept) × (packing_kept is.kept ≡ packing_kept was.kept) × (goal_kept is.kept ≡ goal_kept was.kept)
    × (IsTrue was.disk.honest → is.kept ≡ was.kept)

module _ {F Device : Type 0} {file : OfFile F Device} {table : OfTable F} {disk : OfDisk Device} where
  -- the game in memory is that of the table that is kept
  pub game_kept : (solver : FileSolver F Device file table disk) {source : Compiled} → solver.source ≡ Some source → IsReady solver
      → (k : Kept) × ((state solver).kept ≡ Some k) × IsMadeOf source k
  game_kept solver {source} is ready = kept_there source _ (subst (λ (o : Option Compiled). IsSourceOf o (state solver).kept) is ready.1)

  module _ (whole_stays : (old new : F) → file.is_whole old → table.stays old new
      → file.is_whole new × IsAsked file.stores (file.state old) (file.state new))
      (lasting : (old new : F) → table.goes_on old new → file.lasts old new) (going : (old new : F) → table.stays old new → table.goes_on old new) where
    -- the file was only read
    pub only_asked : (old : FileSolver F Device file table disk) (is : F) → table.stays old.file is → IsOnlyAsked old (record old { file = is })
    only_asked old is stays = record {
      ready = λ ready.
          let (whole, asked) = whole_stays old.file is ready.0 stays in
          (whole, same_source old.source _ _ asked.text asked.packing asked.goal ready.1);
      lasts = lasting old.file is (going old.file is stays);
      asked = λ ready. (whole_stays old.file is ready.0 stays).1;
    }

  module _ {X Y : Type 0} {old : FileSolver F Device file table disk} {r : Result X SolverFault} {fault : SolverFault} where
    -- that there is no game to be asked of is handed on
    pub untold_first : {Cause : State → State → SolverFault → Type 0} → IsErr r × IsErrAnd r (λ f. f ≡ fault)
        → NeedsGame {X = Y} (Err fault) (state old) → (IsReady old → Cause (state old) (state old) fault) → IsUntold old old Cause r
    untold_first is first cause = record {
      cause = λ ready. passed_on _ r _ is (cause ready);
      closed = λ shut. (passed_as r _ _ is (first.closed shut), refl);
      no_game = λ is_open none. (passed_as r _ _ is (first.no_game is_open none), refl);
    }

    -- so of what may not be loaded
    pub not_loaded_first : {text : List ℕ} {goal : Option ℕ} → IsErr r × IsErrAnd r (λ f. f ≡ fault) → NeedsNoGame {X = Y} (Err fault) (state old)
        → (IsReady old → IsRefused file.stores (load text goal) (state old) (state old) fault) → IsNotLoaded old old text goal r
    not_loaded_first is first refused = record {
      refused = λ ready. passed_on _ r _ is (refused ready);
      closed = λ shut. (passed_as r _ _ is (first.closed shut), refl);
      already = λ is_open some. (passed_as r _ _ is (first.already is_open some), refl);
    }

    -- and of what may not be worked on
    pub not_worked_first : {units free : ℕ} → IsErr r × IsErrAnd r (λ f. f ≡ fault) → NeedsGame {X = Y} (Err fault) (state old)
        → (IsReady old → IsRefused file.stores (work units) (state old) (state old) fault) → (IsReady old → fault ≡ TableFull → ⊥)
        → IsNotWorked old old units free r
    not_worked_first is first refused other = record {
      refused = λ ready. passed_on _ r _ is (refused ready);
      closed = λ shut. (passed_as r _ _ is (first.closed shut), refl);
      no_game = λ is_open none. (passed_as r _ _ is (first.no_game is_open none), refl);
      full = λ ready honest. passed_on _ r _ is (λ full. absurd (other ready full));
    }

  module _ {X : Type 0} {old new : FileSolver F Device file table disk} {r : Result X SolverFault} where
    -- where there is a game to be asked of, a cause is the question's own
    pub untold_later : {Cause : State → State → SolverFault → Type 0} → HasGame (state old) → (IsReady old → IfErr r (Cause (state old) (state new)))
        → IsUntold old new Cause r
    untold_later has cause = record {
      cause = cause;
      closed = λ shut. absurd (apart _ has.is_open shut);
      no_game = λ is_open none. some_or_none _ has.some none;
    }

    -- and where one may be loaded, of the loading
    pub not_loaded_later : {text : List ℕ} {goal : Option ℕ} → HasNoGame (state old)
        → (IsReady old → IfErr r (IsRefused file.stores (load text goal) (state old) (state new))) → IsNotLoaded old new text goal r
    not_loaded_later has refused = record {
      refused = refused;
      closed = λ shut. absurd (apart _ has.is_open shut);
      already = λ is_open some. some_or_none _ some has.none;
    }

    -- or worked on, of the work
    pub not_worked_later : {units free : ℕ} → HasGame (state old) → (IsReady old → IfErr r (IsRefused file.stores (work units) (state old) (state new)))
        → (IsReady old → IsTrue (state old).disk.honest → IfErr r (λ why. why ≡ TableFull → IsShortOfPages units free (state old).kept))
        → IsNotWorked old new units free r
    not_worked_later has refused full = record {
      refused = refused;
      closed = λ shut. absurd (apart _ has.is_open shut);
      no_game = λ is_open none. some_or_none _ has.some none;
      full = full;
    }

  -- nothing is left but what there was
  pub left_here : (old : FileSolver F Device file table disk) → file.lasts old.file old.file → GoesAhead (state old) (state old) → IsLeft old old GoesAhead
  left_here old lasts ahead = record {
    ready = λ ready. ready;
    lasts = lasts;
    ahead = ahead;
    sound = λ ready honest sound. sound;
  }

  -- a file that is whole again, and keeps what it kept
  pub left_kept : (old : FileSolver F Device file table disk) (is : F) {Ahead : State → State → Type 0} → file.lasts old.file is
      → Ahead (state old) (file.state is) → (IsReady old → file.is_whole is × (KeepsAll (state old) (file.state is)))
      → IsLeft old (record old { file = is }) Ahead
  left_kept old is lasts ahead kept = record {
    ready = λ ready. let (whole, keeps) = kept ready in (whole, same_source old.source _ _ keeps.0 keeps.1 keeps.2 ready.1);
    lasts = lasts;
    ahead = ahead;
    sound = λ ready honest sound. rw ((kept ready).1.3 honest) sound;
  }

  -- what one call leaves, and then another
  pub left_then : ((a b c : F) → file.lasts a b → file.lasts b c → file.lasts a c) → {a b c : FileSolver F Device file table disk}
      → IsLeft a b GoesAhead → IsLeft b c GoesAhead → IsLeft a c GoesAhead
  left_then lasting first then = record {
    ready = λ ready. then.ready (first.ready ready);
    lasts = lasting _ _ _ first.lasts then.lasts;
    ahead = ahead_then first.ahead then.ahead;
    sound = λ ready honest sound. then.sound (first.ready ready) (still_honest first.ahead.goes_on honest) (first.sound ready honest sound);
  }
