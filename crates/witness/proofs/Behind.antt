-- What is known of the disk of the small game's table from one sitting to the next.
use Rattle.std.proofs.Common.{◌≡◌, ℕ, false, List, [], ◌∷◌, ◌++◌, length, replicate, Option, Some, None, Result, Ok, Err, refl, sym, ap, ◌∙◌, subst}
use Rattle.std.proofs.lemmas.List.{length-replicate}
use Rattle.std.specs.Prelude.{IsTrue, IfSome, OnOk, OnErr}
use Rattle.std.specs.List.{AllByRecursion}
use Rattle.sector_disk.specs.Disk.{Disk, size, IsFresh, at_present}
use Rattle.game_file.specs.Calls.{IsNotOpened}
use Rattle.game_file.specs.State.{State, GoesAhead}
use Rattle.game_file.specs.Kept.{Layout}
use Rattle.solver.specs.declared.replies.Reply.{Reply}
use Rattle.solver.specs.Headline.{IsAnsweredBy, LeavesAPrefix}
use Rattle.solver.specs.Histories.{Sitting, was_made, was_reopened, was_not_opened, IsSitting, IsFound, no_call, by_closing}
use Rattle.solver.specs.Machine.{Command}
use Rattle.solver.specs.Opened.{IsCreated, IsOpened}
use Rattle.witness.specs.lemmas.Sittings.{IsOwn, AreOwn, IsOwnSitting, IsBehindSittings, EndsOwnSitting}

fresh_size : (disk : Disk) → IsFresh 256 disk → size disk ≡ 256
fresh_size disk fresh = let zeros : List ℕ = replicate 512 0 in ap length fresh.contents ∙ length-replicate 256 zeros

module _ (Stores : ℕ → Layout) where
  -- a sitting in which no command is given
  abbrev idle : State → Sitting
  idle state = record { begins = state.kept; answered = []; reached = state.kept; in_doubt = None }

  idle_is_own : (state : State) → IsOwnSitting (idle state)
  idle_is_own state = record { answered = tt; in_doubt = tt }

  idle_is_one : (state : State) → state.closed ≡ false → IsSitting Stores state (idle state) state.disk.now
  idle_is_one state is_open = record { begins = refl; last = state; reached = refl; used = no_call; is_open = is_open; ends = by_closing at_present }

  -- an honest disk is found as it was left
  found_so : (disk : Disk) → IsTrue disk.honest → IsFound Stores disk.now disk
  found_so disk honest = record { honest = honest; as_left = λ image left. left }

  own_then : (sittings : List Sitting) (sitting : Sitting) → AllByRecursion IsOwnSitting sittings → IsOwnSitting sitting
      → AllByRecursion IsOwnSitting (sittings ++ (sitting ∷ []))
  own_then [] sitting before own = (own, tt)
  own_then (first ∷ sittings) sitting before own = (before.0, own_then sittings sitting before.1 own)

  -- the table that was made
  pub behind_create : (disk : Disk) (count : ℕ) (state : State) → IsFresh 256 disk → IsCreated Stores disk count state
      → IsBehindSittings Stores state.disk
  behind_create disk count state fresh created = record {
    honest = subst (λ h. IsTrue h) (sym created.from.goes_on.honest) fresh.honest;
    sectors = created.from.same_size ∙ fresh_size disk fresh;
    sittings = idle state ∷ [];
    own = (idle_is_own state, tt);
    history = was_made fresh.honest created (idle_is_one state created.is_open);
  }

  -- a sitting more
  pub behind_sitting : (disk : Disk) (count : ℕ) (was is : State) → IsBehindSittings Stores disk → IsOpened Stores disk count was
      → GoesAhead was is → EndsOwnSitting Stores was is → IsBehindSittings Stores is.disk
  behind_sitting disk count was is behind opened ahead ends = record {
    honest = subst (λ h. IsTrue h) (sym (ahead.goes_on.honest ∙ opened.from.goes_on.honest)) behind.honest;
    sectors = ahead.same_size ∙ (opened.from.same_size ∙ behind.sectors);
    sittings = behind.sittings ++ (ends.sitting ∷ []);
    own = own_then behind.sittings ends.sitting behind.own ends.own;
    history = was_reopened behind.history (found_so disk behind.honest) opened ends.one;
  }

  pub sitting_idle : (was is : State) → was.closed ≡ false → is ≡ was → EndsOwnSitting Stores was is
  sitting_idle was is is_open same = record {
    sitting = idle was;
    own = idle_is_own was;
    one = subst (λ (s : State). IsSitting Stores was (idle was) s.disk.now) (sym same) (idle_is_one was is_open);
  }

  -- what is answered of one's own commands
  own_part : (moment : ℕ) (answered : List (Command × Reply)) (in_doubt : Option Command) (commands : List Command) (replies : List Reply) (was is : State)
      → IsAnsweredBy Stores moment answered in_doubt commands replies was is → AllByRecursion IsOwn commands → AreOwn answered × IfSome in_doubt IsOwn
  own_part moment [] None commands replies was is part own = (tt, tt)
  own_part moment [] (Some asked) [] replies was is part own = elim part [ ]
  own_part moment [] (Some asked) (command ∷ commands) [] was is part own = elim part [ ]
  own_part moment [] (Some asked) (command ∷ commands) (reply ∷ replies) was is part own = (tt, subst IsOwn (sym part.0) own.0)
  own_part moment ((asked, said) ∷ answered) in_doubt [] replies was is part own = elim part [ ]
  own_part moment ((asked, said) ∷ answered) in_doubt (command ∷ commands) [] was is part own = elim part [ ]
  own_part moment ((asked, said) ∷ answered) in_doubt (command ∷ commands) (reply ∷ replies) was is (same, told, (mid, turn, by_then, open_, part)) own =
      let rest = own_part moment answered in_doubt commands replies mid is part own.1 in
      ((subst IsOwn (sym same) own.0, rest.0), rest.1)

  pub sitting_run : (was is : State) (commands : List Command) (replies : List Reply) → GoesAhead was is → AllByRecursion IsOwn commands
      → LeavesAPrefix Stores commands replies was is → EndsOwnSitting Stores was is
  sitting_run was is commands replies ahead own leaves =
      let it = leaves is.disk.clock is.disk.now at_present in
      let parts = own_part is.disk.clock it.0.answered it.0.in_doubt commands replies was is it.1 own in
      record {
        sitting = it.0;
        own = record { answered = parts.0; in_doubt = parts.1 };
        one = it.2;
      }

  -- a run ends one, whether it is done or has no memory for its replies
  pub sitting_of : {T E S : Type 0} (state : S → State) (old new : S) (commands : List Command) (Told : List Reply → Type 0) (result : Result T E)
      → GoesAhead (state old) (state new) → AllByRecursion IsOwn commands → (state old).closed ≡ false
      → OnOk result ((added : List Reply) × Told added × LeavesAPrefix Stores commands added (state old) (state new))
      → OnErr result (new ≡ old) → EndsOwnSitting Stores (state old) (state new)
  sitting_of state old new commands Told (Ok x) ahead own is_open done refused =
      sitting_run (state old) (state new) commands done.0 ahead own done.2
  sitting_of state old new commands Told (Err e) ahead own is_open done refused =
      sitting_idle (state old) (state new) is_open (ap state refused)

  -- `open` was refused
  pub behind_no_sitting : (disk later : Disk) (count now : ℕ) → IsBehindSittings Stores disk → IsNotOpened disk count later now → IsBehindSittings Stores later
  behind_no_sitting disk later count now behind refused = record {
    honest = subst (λ h. IsTrue h) (sym refused.from.goes_on.honest) behind.honest;
    sectors = refused.from.same_size ∙ behind.sectors;
    sittings = behind.sittings;
    own = behind.own;
    history = was_not_opened behind.history (found_so disk behind.honest) (refused.leaves behind.honest) at_present;
  }
