-- All that may come of a table in many sittings, each of which a stop of the power may end.
use Rattle.std.specs.Prelude.{◌≡◌, ℕ, false, List, [], ◌∷◌, ◌++◌, Option, None, Some, IsTrue}
use Rattle.sector_disk.specs.Disk.{Image, Shown, Disk, LeavesOnly, MayLeave, StopsIn}
use Rattle.game_file.specs.Calls.{IsAsked}
use Rattle.game_file.specs.Kept.{Kept, Layout, in_any}
use Rattle.game_file.specs.State.{State}
use Rattle.solver.specs.declared.replies.Reply.{Reply}
use Rattle.solver.specs.Growth.{IsGrowth}
use Rattle.solver.specs.Machine.{Command, Does, MayDo}
use Rattle.solver.specs.Opened.{IsCreated, IsOpened}
use Rattle.solver.specs.Runs.{IsTurn}

-- what is known of one sitting: the table that it began with, the commands that were answered, each with its reply, the table behind the
-- last answer, and the command in doubt, if there is one: it was begun and not answered, or answered E1 for a write or a sync that failed
pub record Sitting : Type 0 where
  pub begins : Option Kept
  pub answered : List (Command × Reply)
  pub reached : Option Kept
  pub in_doubt : Option Command

-- commands that were answered lead from the one table to the other: each does what its reply says
abbrev pub DoAll : List (Command × Reply) → Option Kept → Option Kept → Type 0
DoAll [] old new = new ≡ old
DoAll ((command, reply) ∷ answered) old new = (mid : Option Kept) × Does reply command old mid × DoAll answered mid new

-- what the command in doubt may do, if there is one: it is done, or leaves the table as it was
abbrev pub DoesInDoubt : Option Command → Option Kept → Option Kept → Type 0
DoesInDoubt None old new = new ≡ old
DoesInDoubt (Some command) old new = MayDo command old new

-- the sittings lead from the one table to the other: in each all that was answered is held, and of the table that it reached there is left
-- that or what one command more may do
abbrev pub LeadTo : List Sitting → Option Kept → Option Kept → Type 0
LeadTo [] old new = new ≡ old
LeadTo (sitting ∷ sittings) old new = (sitting.begins ≡ old) × (DoAll sitting.answered old sitting.reached
    × ((left : Option Kept) × DoesInDoubt sitting.in_doubt sitting.reached left × LeadTo sittings left new))

module _ (Stores : ℕ → Layout) where
  -- calls on a solver, one after another: commands with their replies, questions, which change nothing, and growths, which keep the table
  pub data IsUsed : List (Command × Reply) → State → State → Type 0 where
    no_call : {state : State} → IsUsed [] state state
    a_question : {answered : List (Command × Reply)} {was mid is : State} → IsAsked Stores was mid → IsUsed answered mid is
        → IsUsed answered was is
    a_command : {asked : Command} {reply : Reply} {answered : List (Command × Reply)} {was mid is : State}
        → IsTurn Stores asked reply was mid → IsUsed answered mid is → IsUsed ((asked, reply) ∷ answered) was is
    a_growth : {answered : List (Command × Reply)} {pages : ℕ} {was mid is : State} → IsGrowth Stores pages was mid → IsUsed answered mid is
        → IsUsed answered was is

  -- what the disk shows at the end of a sitting, and the command in doubt: the solver is closed, or a stop comes between
  -- two calls; a stop comes in a question, in a growth, or in a command, up to its last call of the disk and behind it;
  -- or a write or a sync fails in a growth or in a command, which is answered E1
  pub data Ends (last : State) : Option Command → Shown → Type 0 where
    by_closing : {moment : ℕ} {left : Shown} → StopsIn last.disk last.disk moment left → Ends last None left
    in_a_question : {is : State} {moment : ℕ} {left : Shown} → IsAsked Stores last is
        → StopsIn last.disk is.disk moment left → Ends last None left
    in_a_growth : {pages : ℕ} {is : State} {moment : ℕ} {left : Shown} → IsGrowth Stores pages last is
        → StopsIn last.disk is.disk moment left → Ends last None left
    in_a_command : {asked : Command} {reply : Reply} {is : State} {moment : ℕ} {left : Shown}
        → IsTurn Stores asked reply last is → StopsIn last.disk is.disk moment left → Ends last (Some asked) left

  -- a sitting with a solver from this state on, at whose end the disk shows this; the table that it reached is that of the last state
  pub record IsSitting (was : State) (sitting : Sitting) (left : Shown) : Type 0 where
    pub begins : sitting.begins ≡ was.kept
    pub last : State
    pub reached : sitting.reached ≡ last.kept
    pub used : IsUsed sitting.answered was last
    pub is_open : last.closed ≡ false
    pub ends : Ends last sitting.in_doubt left

  -- an honest disk as it is found after a stop: nothing can be left of it that the stop could not leave
  pub record IsFound (left : Shown) (disk : Disk) : Type 0 where
    pub honest : IsTrue disk.honest
    pub as_left : (image : Image) → MayLeave disk.now image → MayLeave left image

  -- the sittings of a table that began as this one, and what the disk shows after them. It was made: `create` has answered Ok, and the
  -- first sitting goes on from there. It was left: whatever stop has come, the disk holds it. Or it was found, and opened. Another sitting
  -- opens what was left; and while it is opened a stop may come, or `open` is refused
  pub data HistoryFrom : Option Kept → List Sitting → Shown → Type 0 where
    was_made : {disk : Disk} {count : ℕ} {was : State} {sitting : Sitting} {left : Shown} → IsTrue disk.honest
        → IsCreated Stores disk count was → IsSitting was sitting left → HistoryFrom None (sitting ∷ []) left
    was_left : {begins : Option Kept} {left : Shown} → ((image : Image) → MayLeave left image → in_any Stores image begins)
        → HistoryFrom begins [] left
    was_found : {disk : Disk} {count : ℕ} {was : State} {sitting : Sitting} {left : Shown} → IsTrue disk.honest
        → IsOpened Stores disk count was → IsSitting was sitting left → HistoryFrom was.kept (sitting ∷ []) left
    was_reopened : {begins : Option Kept} {sittings : List Sitting} {before left : Shown} {disk : Disk} {count : ℕ} {was : State}
        {sitting : Sitting} → HistoryFrom begins sittings before → IsFound before disk → IsOpened Stores disk count was
        → IsSitting was sitting left → HistoryFrom begins (sittings ++ (sitting ∷ [])) left
    was_not_opened : {begins : Option Kept} {sittings : List Sitting} {before left : Shown} {disk later : Disk}
        {moment : ℕ} → HistoryFrom begins sittings before → IsFound before disk
        → LeavesOnly disk later (MayLeave disk.now) → StopsIn disk later moment left → HistoryFrom begins sittings left

  -- the sittings of a table that began as the empty one
  abbrev pub History : List Sitting → Shown → Type 0
  History = HistoryFrom None
