-- The headline in brief: what a reader has to know of a table in a file, and no more. It names no layout of the file,
-- no packing of positions, and no step of the work. What a table tells stands in `Tables`. The calls of `SavedTable` go
-- by the relations of one record, `Calls`, which are not said here; `AreLawful` says what holds of them, and the headline
-- in brief of each history of such calls.
use Rattle.std.specs.Prelude.{◌≡◌, ◌⊎◌, ℕ, ◌+◌, ◌<◌, List, [], ◌∷◌, ◌++◌, length, Contains, Option, None, Some, IsTrue, Result, Ok, Err, IfErr, IsErrOf}
use Rattle.sector_disk.specs.Disk.{Image, Shown, Disk, GoesOn, MayLeave, StopsIn, Grew}
use Rattle.rbg_text.specs.Token.{Text}
use Rattle.rbg_game.specs.declared.position.Position.{Position}
use Rattle.rbg_game.specs.declared.roles.Player.{Player}
use Rattle.retrograde.specs.Units.{processed_in_view}
use Rattle.retrograde.specs.declared.records.Counts.{Counts}
use Rattle.retrograde.specs.View.{View, HasNumber, IsFinished}
use Rattle.solver.specs.declared.fault.SolverFault.{SolverFault}
use Rattle.solver.specs.declared.fault.SolverFault.TheVariants.{Disk as DiskFailed, OutOfMemory, Closed}
use Rattle.solver.specs.declared.replies.Reply.{Reply}
use Rattle.solver.specs.declared.replies.Reply.TheVariants.{Loaded, Worked, Refused}
use Rattle.solver.specs.Machine.{Command, load, work}
use Rattle.headline.specs.Tables.{BriefTable, IsTrueOfItsGame, TellsCounts, Told, IsTold, IsForGood, Request, to_do, MayRefuse}

-- what a command answers: the game is loaded, this many units are done, or it is refused
pub data BriefAnswer : Type 0 where
  loaded : BriefAnswer
  worked : (units : ℕ) → BriefAnswer
  refused : BriefAnswer

-- a reply as such an answer
abbrev pub answer_of : Reply → BriefAnswer
answer_of Loaded = loaded
answer_of (Worked units counts) = worked units
answer_of (Refused fault) = refused

-- what `load` or `work` answers as a reply, with what is replied where it is done
abbrev pub reply_of : {T : Type 0} → (T → Reply) → Result T SolverFault → Reply
reply_of done (Ok value) = done value
reply_of done (Err fault) = Refused fault

-- how many units were done so far: each expanded a position or processed one
abbrev pub units_so_far : View Position → ℕ
units_so_far view = view.expanded + processed_in_view view

-- no game was loaded, and now that of the text is, with this goal: one position is known, and nothing is done
pub record IsJustLoaded (text : Text) (goal : Option ℕ) (old new : Option BriefTable) : Type 0 where
  pub none : old ≡ None
  pub table : BriefTable
  pub is : new ≡ Some table
  pub text_is : table.text ≡ text
  pub goal_is : table.goal ≡ goal
  pub one : length table.view.known ≡ 1
  pub nothing_done : units_so_far table.view ≡ 0

-- of the units that were asked of the old table these were done, fewer only where the new one is finished: what was
-- known has its number, what was settled its value, and a finished table stays as it is
pub record GoesOnBy (asked done : ℕ) (old new : BriefTable) : Type 0 where
  pub text_is : new.text ≡ old.text
  pub goal_is : new.goal ≡ old.goal
  pub known : (i : ℕ) (at : Position) → HasNumber old.view i at → HasNumber new.view i at
  pub settled : (i : ℕ) (w : Player) (n : ℕ) → old.view.value i ≡ Some (w, n) → new.view.value i ≡ Some (w, n)
  pub finished : IsFinished old.view → new ≡ old
  pub units : units_so_far new.view ≡ units_so_far old.view + done
  pub all : (done ≡ asked) ⊎ ((done < asked) × IsFinished new.view)

-- what a command with this answer makes of the table; a refusal leaves it
abbrev pub Makes : BriefAnswer → Command → Option BriefTable → Option BriefTable → Type 0
Makes loaded (load text goal) old new = IsJustLoaded text goal old new
Makes (worked done) (work asked) (Some old) (Some new) = GoesOnBy asked done old new
Makes refused command old new = new ≡ old
Makes _ _ _ _ = ⊥

-- the commands that were answered make the one table of the other
abbrev pub MakeInTurn : List (Command × BriefAnswer) → Option BriefTable → Option BriefTable → Type 0
MakeInTurn [] old new = new ≡ old
MakeInTurn ((command, answer) ∷ answered) old new =
    (mid : Option BriefTable) × Makes answer command old mid × MakeInTurn answered mid new

-- what the command in doubt may make, if there is one: it is done, or leaves the table as it was
abbrev pub MayMake : Option Command → Option BriefTable → Option BriefTable → Type 0
MayMake None old new = new ≡ old
MayMake (Some command) old new = (answer : BriefAnswer) × Makes answer command old new

-- a sitting: the table that it began with, the commands that were answered, each with its answer, what was told
-- meanwhile, the table behind the last answer, and the command in doubt, if there is one: it was begun and not
-- answered, or refused since a write or a sync failed
pub record BriefSitting : Type 0 where
  pub begins : Option BriefTable
  pub answered : List (Command × BriefAnswer)
  pub told : List Told
  pub reached : Option BriefTable
  pub in_doubt : Option Command

-- the sittings make the one table of the other: in each all that was answered, and of the table behind the last answer
-- one command more at most
abbrev pub SittingsMake : List BriefSitting → Option BriefTable → Option BriefTable → Type 0
SittingsMake [] old new = new ≡ old
SittingsMake (sitting ∷ sittings) old new = (sitting.begins ≡ old) × (MakeInTurn sitting.answered old sitting.reached
    × ((left : Option BriefTable) × MayMake sitting.in_doubt sitting.reached left × SittingsMake sittings left new))

-- the one; or the other, where a write or a sync of the disk has failed meanwhile
abbrev pub OrBroken : Type 0 → Type 0 → Disk → Disk → Type 0
OrBroken Such Broken old new = Such ⊎ (Broken × Grew old.failed_writes new.failed_writes)

-- the calls of a trait, as relations over what they are made on
pub record Calls (S : Type 0) : Type 1 where
  -- its disk, through time, how often that has failed, and how many pages the table has
  pub disk : S → Disk
  pub failures : S → ℕ
  pub pages : S → ℕ
  -- it came of `create` or `open`, and of calls since then
  pub ready : S → Type 0
  -- a write or a sync has failed in a call on it
  pub shut : S → Type 0
  -- what its calls tell of the table of the last commit
  pub tells : S → Option BriefTable → Type 0
  -- `create` has made it on this disk; `open` has opened it there; or has given this disk back as that later one, for
  -- this fault
  pub created : Disk → S → Type 0
  pub opened : Disk → S → Type 0
  pub not_opened : Disk → Disk → SolverFault → Type 0
  -- a command with this answer, and a call that is no command, has led from the one to the other
  pub answered : Command → BriefAnswer → S → S → Type 0
  pub asked : S → S → Type 0
  -- a write or a sync has failed in the command that is named, or in another call, which has led from the one to the
  -- other
  pub broken : Option Command → S → S → Type 0

module _ {S : Type 0} (calls : Calls S) where
  -- it is of one table with the other, and the disk goes on from its disk
  abbrev pub IsLater : S → S → Type 0
  IsLater was is = calls.ready was → calls.ready is × GoesOn (calls.disk was) (calls.disk is)

  -- of an honest disk, this is so of the table that its calls tell
  abbrev pub OfTable : S → (Option BriefTable → Type 0) → Type 0
  OfTable s Such = (table : Option BriefTable) → calls.tells s table → IsTrue (calls.disk s).honest → Such table

  -- what a call answers where it is shut: E9; and E1 is answered only where the disk failed in the call
  pub record IsReply {T : Type 0} (was is : S) (result : Result T SolverFault) : Type 0 where
    pub closed : calls.shut was → IsErrOf result Closed
    pub failed : calls.ready was
        → IfErr result (λ fault. fault ≡ DiskFailed → Grew (calls.failures was) (calls.failures is))

  -- a call that is no command, with what it answers: any refusal has its cause
  pub record IsQuestion {T : Type 0} (request : Request) (was is : S) (result : Result T SolverFault) : Type 0 where
    pub asked : calls.asked was is
    pub reply : IsReply was is result
    pub cause : OfTable was (λ table. IfErr result (MayRefuse request (calls.pages was) table))

  -- a command is done as its reply says; or it is refused, or a write or a sync has failed in it
  abbrev pub HasDone : Command → Reply → S → S → Type 0
  HasDone command (Refused fault) was is =
      OrBroken (calls.answered command refused was is) (calls.broken (Some command) was is) (calls.disk was) (calls.disk is)
  HasDone command reply was is = calls.answered command (answer_of reply) was is

  -- a command with its reply: the counts of a reply are those of the table; what is shut answers E9; E1 comes only where
  -- the disk failed in the call, and any refusal with its cause
  pub record IsAnswered (command : Command) (reply : Reply) (was is : S) : Type 0 where
    pub done : HasDone command reply was is
    pub counts : (units : ℕ) (counts : Counts) → reply ≡ Worked units counts → calls.ready was → OfTable is (TellsCounts counts)
    pub closed : calls.shut was → reply ≡ Refused Closed
    pub failed : calls.ready was → reply ≡ Refused DiskFailed → Grew (calls.failures was) (calls.failures is)
    pub cause : (fault : SolverFault) → reply ≡ Refused fault
        → OfTable was (λ table. MayRefuse (to_do command) (calls.pages was) table fault)

  -- what holds of the calls: each goes on from the disk that it was given; what is shut refuses each command and stays
  -- as it is; a table begins as the empty one, a command makes of it what its answer says, any other call leaves it; it
  -- is one; and what it tells is so
  pub record AreLawful : Type 0 where
    pub created_on : (d : Disk) (s : S) → calls.created d s → calls.ready s × GoesOn d (calls.disk s)
    pub opened_on : (d : Disk) (s : S) → calls.opened d s → calls.ready s × GoesOn d (calls.disk s)
    pub given_back : (d later : Disk) (fault : SolverFault) → calls.not_opened d later fault → GoesOn d later
    pub answered_on : (command : Command) (answer : BriefAnswer) (was is : S) → calls.answered command answer was is
        → IsLater was is
    pub asked_on : (was is : S) → calls.asked was is → IsLater was is
    pub broken_on : (in_doubt : Option Command) (was is : S) → calls.broken in_doubt was is → IsLater was is
        × calls.shut is × ¬ calls.shut was
    pub shut_answers : (command : Command) (answer : BriefAnswer) (was is : S) → calls.answered command answer was is
        → calls.shut was
        → (answer ≡ refused) × (is ≡ was)
    pub shut_stays : (was is : S) → calls.asked was is → calls.shut was → is ≡ was
    pub tells_open : (s : S) (table : Option BriefTable) → calls.tells s table → calls.ready s × ¬ calls.shut s
    pub begins : (d : Disk) (made : S) → IsTrue d.honest → calls.created d made → calls.tells made None
    pub leaves : (was is : S) (table : Option BriefTable) → IsTrue (calls.disk was).honest → calls.asked was is
        → calls.tells was table
        → calls.tells is table
    pub makes : (command : Command) (answer : BriefAnswer) (was is : S) (table : Option BriefTable)
        → IsTrue (calls.disk was).honest
        → calls.answered command answer was is → calls.tells was table
        → (after : Option BriefTable) × Makes answer command table after × calls.tells is after
    pub one : (at : S) (table other : Option BriefTable) → IsTrue (calls.disk at).honest → calls.tells at table
        → calls.tells at other → table ≡ other
    pub so : (at : S) (table : Option BriefTable) → IsTrue (calls.disk at).honest → calls.tells at table
        → IsTrueOfItsGame table

  -- an honest disk as it is found after a stop: nothing can be left of it that the stop could not leave
  abbrev pub IsFoundAs : Shown → Disk → Type 0
  IsFoundAs left d = IsTrue d.honest × ((image : Image) → MayLeave d.now image → MayLeave left image)

  -- calls one after another: commands with their answers, and others between them; and what they told
  pub data AreCalls : List (Command × BriefAnswer) → List Told → S → S → Type 0 where
    no_call : {s : S} → AreCalls [] [] s s
    a_question : {later : List (Command × BriefAnswer)} {told : List Told} {was mid is : S} → calls.asked was mid
        → AreCalls later told mid is
        → AreCalls later told was is
    a_command : {command : Command} {answer : BriefAnswer} {later : List (Command × BriefAnswer)} {told : List Told}
        {was mid is : S}
        → calls.answered command answer was mid → AreCalls later told mid is
        → AreCalls ((command, answer) ∷ later) told was is
    it_told : {one : Told} {later : List (Command × BriefAnswer)} {told : List Told} {was is : S}
        → OfTable was (IsTold one)
        → AreCalls later told was is
        → AreCalls later (one ∷ told) was is

  -- how a sitting ends, with the command in doubt and what the disk shows then: between two calls; or by a stop at some
  -- moment of a call that is no command, of a command, or of a call in which a write or a sync failed
  pub data EndsWith (last : S) : Option Command → Shown → Type 0 where
    between_calls : {moment : ℕ} {left : Shown} → StopsIn (calls.disk last) (calls.disk last) moment left
        → EndsWith last None left
    in_a_question : {is : S} {moment : ℕ} {left : Shown} → calls.asked last is
        → StopsIn (calls.disk last) (calls.disk is) moment left → EndsWith last None left
    in_a_command : {command : Command} {answer : BriefAnswer} {is : S} {moment : ℕ} {left : Shown}
        → calls.answered command answer last is → StopsIn (calls.disk last) (calls.disk is) moment left
        → EndsWith last (Some command) left
    in_a_failure : {in_doubt : Option Command} {is : S} {moment : ℕ} {left : Shown} → calls.broken in_doubt last is
        → StopsIn (calls.disk last) (calls.disk is) moment left → EndsWith last in_doubt left

  -- a sitting with a solver from this state on, at whose end the disk shows this: the solver tells the table that it
  -- began with, and behind the last answer the one that was reached
  pub record IsBriefSitting (was : S) (sitting : BriefSitting) (left : Shown) : Type 0 where
    pub begins : calls.tells was sitting.begins
    pub last : S
    pub used : AreCalls sitting.answered sitting.told was last
    pub reached : calls.tells last sitting.reached
    pub ends : EndsWith last sitting.in_doubt left

  -- the sittings of a table and what the disk shows after them: `create` has answered Ok, and the first sitting goes on from there; each later
  -- one opens what was left; and a stop may come while it is opened, or `open` is refused
  pub data BriefHistory : List BriefSitting → Shown → Type 0 where
    was_made : {d : Disk} {s : S} {sitting : BriefSitting} {left : Shown} → IsTrue d.honest → calls.created d s
        → IsBriefSitting s sitting left
        → BriefHistory (sitting ∷ []) left
    was_reopened : {sittings : List BriefSitting} {before left : Shown} {d : Disk} {s : S} {sitting : BriefSitting}
        → BriefHistory sittings before → IsFoundAs before d → calls.opened d s → IsBriefSitting s sitting left
        → BriefHistory (sittings ++ (sitting ∷ [])) left
    was_stopped : {sittings : List BriefSitting} {before left : Shown} {d : Disk} {s : S} {moment : ℕ}
        → BriefHistory sittings before → IsFoundAs before d → calls.opened d s → StopsIn d (calls.disk s) moment left
        → BriefHistory sittings left
    was_refused : {sittings : List BriefSitting} {before left : Shown} {d later : Disk} {fault : SolverFault}
        {moment : ℕ} → BriefHistory sittings before → IsFoundAs before d → calls.not_opened d later fault
        → StopsIn d later moment left → BriefHistory sittings left

  -- whenever the power stops after these sittings, reopening gives the table that the last of them reached behind its
  -- last answer, or what the command in doubt makes of that; each began with what the one before left so, and the first
  -- with the empty table. What the table tells is so, and whatever was told in any of the sittings it tells again, but
  -- that a value is open. `open` is refused only if the disk failed or memory ran out
  pub record BriefHeadline (sittings : List BriefSitting) (image : Image) : Type 0 where
    pub table : Option BriefTable
    pub made : SittingsMake sittings None table
    pub again : (sitting : BriefSitting) (one : Told) → Contains sittings sitting → Contains sitting.told one
        → IsForGood one → IsTold one table
    pub so : IsTrueOfItsGame table
    pub gives : (d : Disk) (s : S) → IsTrue d.honest → d.now.contents ≡ image → calls.opened d s → calls.tells s table
    pub fails : (d later : Disk) (fault : SolverFault) → IsTrue d.honest → d.now.contents ≡ image
        → calls.not_opened d later fault
        → (fault ≡ DiskFailed) ⊎ (fault ≡ OutOfMemory)
