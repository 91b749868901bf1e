-- Commands one after another.
use Rattle.std.proofs.Common.{◌≡◌, ◌≢◌, inl, ℕ, zero, suc, ◌+◌, ◌<◌, Bool, true, false, List, [], ◌∷◌, ◌++◌, length, take, map, get_or, Option, refl, sym, ◌∙◌, ap, subst, append_assoc, append-nil, arith}
use Rattle.sector_disk.specs.lemmas.Moments.{goes_on_trans, leaves_more}
use Rattle.game_file.specs.Kept.{Kept, Layout}
use Rattle.game_file.specs.State.{State, GoesAhead}
use Rattle.page_store.specs.lemmas.Works.{closes_then}
use Rattle.solver.specs.declared.fault.SolverFault.{SolverFault}
use Rattle.solver.specs.declared.fault.SolverFault.TheVariants.{Disk as DiskFailed, NotATable, AlreadyATable, Damaged, OldLayout, TooSmall, TableFull, OutOfMemory, Closed, Game as BadGame, NoGame, GameAlready, KeeperChooses, TooWide, TooManyPositions, Inconsistent, NoSuchPosition, NotSettled, ListingsUsedUp, BadPosition}
use Rattle.solver.specs.declared.replies.Command.{Command as Asked}
use Rattle.solver.specs.declared.replies.Reply.{Reply}
use Rattle.solver.specs.declared.replies.Reply.TheVariants.{Refused}
use Rattle.solver.specs.Machine.{Command}
use Rattle.solver.specs.Runs.{command_of, IsTurnWithCause, Turns, IsRun}
use Rattle.solver.specs.Steps.{IsDone, IsRefused}
use Rattle.solver.proofs.Loads.{Leaves}
use Rattle.solver.proofs.Refusals.{apart}

-- only E1 closes
is_disk : (fault : SolverFault) (was is : Bool) → (fault ≢ DiskFailed → is ≡ was) → was ≡ false → is ≡ true → fault ≡ DiskFailed
is_disk DiskFailed was is still open_ shut = refl
is_disk NotATable was is still open_ shut = absurd (apart was open_ (sym (still (λ e. cc)) ∙ shut))
is_disk AlreadyATable was is still open_ shut = absurd (apart was open_ (sym (still (λ e. cc)) ∙ shut))
is_disk Damaged was is still open_ shut = absurd (apart was open_ (sym (still (λ e. cc)) ∙ shut))
is_disk OldLayout was is still open_ shut = absurd (apart was open_ (sym (still (λ e. cc)) ∙ shut))
is_disk TooSmall was is still open_ shut = absurd (apart was open_ (sym (still (λ e. cc)) ∙ shut))
is_disk TableFull was is still open_ shut = absurd (apart was open_ (sym (still (λ e. cc)) ∙ shut))
is_disk OutOfMemory was is still open_ shut = absurd (apart was open_ (sym (still (λ e. cc)) ∙ shut))
is_disk Closed was is still open_ shut = absurd (apart was open_ (sym (still (λ e. cc)) ∙ shut))
is_disk (BadGame fault) was is still open_ shut = absurd (apart was open_ (sym (still (λ e. cc)) ∙ shut))
is_disk NoGame was is still open_ shut = absurd (apart was open_ (sym (still (λ e. cc)) ∙ shut))
is_disk GameAlready was is still open_ shut = absurd (apart was open_ (sym (still (λ e. cc)) ∙ shut))
is_disk (KeeperChooses number) was is still open_ shut = absurd (apart was open_ (sym (still (λ e. cc)) ∙ shut))
is_disk TooWide was is still open_ shut = absurd (apart was open_ (sym (still (λ e. cc)) ∙ shut))
is_disk TooManyPositions was is still open_ shut = absurd (apart was open_ (sym (still (λ e. cc)) ∙ shut))
is_disk Inconsistent was is still open_ shut = absurd (apart was open_ (sym (still (λ e. cc)) ∙ shut))
is_disk NoSuchPosition was is still open_ shut = absurd (apart was open_ (sym (still (λ e. cc)) ∙ shut))
is_disk NotSettled was is still open_ shut = absurd (apart was open_ (sym (still (λ e. cc)) ∙ shut))
is_disk ListingsUsedUp was is still open_ shut = absurd (apart was open_ (sym (still (λ e. cc)) ∙ shut))
is_disk BadPosition was is still open_ shut = absurd (apart was open_ (sym (still (λ e. cc)) ∙ shut))

-- the first elements, and one more
take_suc : {X : Type 0} (xs : List X) (i : ℕ) (x : X) → i < length xs → x ≡ get_or xs i x → take (suc i) xs ≡ take i xs ++ x ∷ []
take_suc [] i x less is = absurd (omega (arith, less))
take_suc (y ∷ xs) zero x less is = ap (λ z. z ∷ []) (sym is)
take_suc (y ∷ xs) (suc i) x less is = ap (λ zs. y ∷ zs) (take_suc xs i x (omega (arith, less)) is)

take_more : {X : Type 0} (xs : List X) (i : ℕ) (x : X) → i < length xs → x ≡ get_or xs i x → take (i + 1) xs ≡ take i xs ++ x ∷ []
take_more {X} xs i x less is =
    let one : i + 1 ≡ suc i = omega arith in
    ap (λ (n : ℕ). take n xs) one ∙ take_suc xs i x less is

map_more : {X Y : Type 0} (f : X → Y) (xs : List X) (x : X) → map f (xs ++ x ∷ []) ≡ map f xs ++ f x ∷ []
map_more f [] x = refl
map_more f (y ∷ xs) x = ap (λ zs. f y ∷ zs) (map_more f xs x)

-- a later state, and one later still
pub ahead_then : {old mid new : State} → GoesAhead old mid → GoesAhead mid new → GoesAhead old new
ahead_then first second = record {
  goes_on = goes_on_trans first.goes_on second.goes_on;
  same_size = second.same_size ∙ first.same_size;
  failures = omega (arith, first.failures, second.failures);
  capacity = second.capacity ∙ first.capacity;
  closes = closes_then first.goes_on.failed_writes second.goes_on.failed_writes first.closes second.closes;
}

module _ (Stores : ℕ → Layout) where
  module _ (command : Command) (old new : State) (ahead : GoesAhead old new) where
    -- a command that is done is one of a run
    pub done_turn : (reply : Reply) → IsDone Stores command reply old new → (old.closed ≡ true → ⊥) → IsTurnWithCause Stores command reply old new
    done_turn reply done is_open = record {
      turn = record {
        does = done.step.does;
        ahead = ahead;
        between = λ honest was is. done.stops.since honest;
        at = λ honest was is. done.stops.now honest;
        failed = λ was is. absurd (apart new.closed done.stops.is_open is);
        shut = λ was. absurd (is_open was);
      };
      reason = done.step.reason;
    }

    -- and so is one that is refused
    pub refused_turn : (fault : SolverFault) → IsRefused Stores command old new fault → (old.closed ≡ true → (fault ≡ Closed) × (new ≡ old))
        → IsTurnWithCause Stores command (Refused fault) old new
    refused_turn fault it shut = record {
      turn = record {
        does = it.step.does;
        ahead = ahead;
        between = λ honest was is. leaves_more (λ image stores. inl stores) (it.stops.since honest is);
        at = λ honest was is image left.
            subst (λ (pages : ℕ). Stores pages image new.kept) (sym ahead.capacity)
            (subst (λ (kept : Option Kept). Stores old.capacity image kept) (sym (it.stops.same honest))
            ((it.stops.since honest is).present image left));
        failed = λ was is. record {
          reply_is = ap Refused (is_disk fault old.closed new.closed it.still was is);
          leaves = λ honest. it.stops.failed honest was is;
        };
        shut = λ was. let (is, same) = shut was in (ap Refused is, same);
      };
      reason = it.step.reason;
    }

  -- one command more
  turns_more : (commands : List Command) (replies : List Reply) (command : Command) (reply : Reply) (was mid is : State) → Turns Stores commands replies was mid
      → IsTurnWithCause Stores command reply mid is → Turns Stores (commands ++ command ∷ []) (replies ++ reply ∷ []) was is
  turns_more [] [] command reply was mid is same turn = (is, subst (λ (s : State). IsTurnWithCause Stores command reply s is) same turn, refl)
  turns_more [] (r ∷ replies) command reply was mid is none turn = absurd none
  turns_more (c ∷ commands) [] command reply was mid is none turn = absurd none
  turns_more (c ∷ commands) (r ∷ replies) command reply was mid is (next, first, rest) turn =
      (next, first, turns_more commands replies command reply next mid is rest turn)

  -- nothing is done yet
  pub run_begins : (before : List Reply) (state : State) → Leaves Stores state → IsRun Stores [] before before state state
  run_begins before state leaves = record { added = []; replies_are = sym (append-nil before); begins = leaves; turns = refl }

  -- one command more of a list
  pub run_goes_on : (commands : List Asked) (i : ℕ) (command : Asked) (reply : Reply) (before after more : List Reply) (was mid is : State)
      → i < length commands → command ≡ get_or commands i command → more ≡ after ++ reply ∷ []
      → IsRun Stores (take i commands) before after was mid → IsTurnWithCause Stores (command_of command) reply mid is
      → IsRun Stores (take (i + 1) commands) before more was is
  run_goes_on commands i command reply before after more was mid is less at pushed so_far turn = record {
    added = so_far.added ++ reply ∷ [];
    replies_are = pushed ∙ (ap (λ (rs : List Reply). rs ++ reply ∷ []) so_far.replies_are ∙ append_assoc before so_far.added (reply ∷ []));
    begins = so_far.begins;
    turns =
        let longer : map command_of (take (i + 1) commands) ≡ map command_of (take i commands) ++ command_of command ∷ [] =
        ap (λ (cs : List Asked). map command_of cs) (take_more commands i command less at) ∙ map_more command_of (take i commands) command in
        subst (λ (cs : List Command). Turns Stores cs (so_far.added ++ reply ∷ []) was is) (sym longer)
        (turns_more (map command_of (take i commands)) so_far.added (command_of command) reply was mid is so_far.turns turn);
  }
