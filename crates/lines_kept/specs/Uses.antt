-- What is done with the file of one table, by sessions of lines and by commands, with stops anywhere.
use Rattle.std.specs.Prelude.{◌≡◌, ℕ, ◌≤◌, List, [], ◌∷◌, ◌++◌, Option, IsTrue, map}
use Rattle.sector_disk.specs.Disk.{Disk, Image, Shown, LeavesOnly, MayLeave}
use Rattle.game_file.specs.Calls.{IsAsked}
use Rattle.game_file.specs.Kept.{Layout}
use Rattle.game_file.specs.State.{State}
use Rattle.retrograde.specs.Stored.{Stored}
use Rattle.solver.specs.Growth.{IsGrowth}
use Rattle.solver.specs.Headline.{Headline}
use Rattle.solver.specs.Histories.{IsFound, Sitting}
use Rattle.solver.specs.Machine.{Command}
use Rattle.solver.specs.Opened.{IsCreated, IsOpened}
use Rattle.solver.specs.Runs.{IsTurn}
use Rattle.solver.specs.declared.replies.Reply.{Reply}
use Rattle.session.specs.Seen.{Moment, Seen}
use Rattle.session.specs.Sessions.{SessionState, IsSession, first_state}
use Rattle.session.specs.declared.line_by_line.Lines.{Lines}
use Rattle.lines_kept.specs.Told.{commands_in, told_by}

module _ {F Version : Type 0} (Stores : ℕ → Layout) (state : F → State)
    (IsVersion : Version → Stored (List ℕ) → F → Type 0) (AreTwo : Version → Version → Type 0) (IsUsedUp : F → Type 0)
    (Lasts : F → F → Type 0) where
  -- what was done with the file of one table, one after another, each with what it had told when it was stopped, and
  -- what the disk shows behind the last stop. A stop comes at any moment of the disk, the last one too:
  --   made     `create` was answered
  --   lines    a session of lines, or a look, went on with what was left
  --   loaded   a game was loaded, and the reply began at this moment, with the disk as that left it
  --   asked    an audit: the table was only read
  --   growth   the table was given pages, whatever was answered
  --   nothing  a stop came while it was opened, or that was refused
  pub data Uses : List (List (Command × Reply)) → Shown → Type 0 where
    made : {disk : Disk} {count : ℕ} {is : State} → IsTrue disk.honest → IsCreated Stores disk count is
        → Uses [] is.disk.now
    lines : {uses : List (List (Command × Reply))} {shown : Shown} {disk : Disk} {count : ℕ} {bytes : List ℕ}
        {left : Option (List ℕ)} {before after : Seen} {status : ℕ} (which : Lines) (begins : F)
        (ends : SessionState F Version) → Uses uses shown → IsFound Stores shown disk
        → IsOpened Stores disk count (state begins)
        → (session : IsSession Stores state IsVersion AreTwo IsUsedUp Lasts bytes (first_state begins which) ends left
        before after status) → (stop : ℕ) → (state begins).disk.clock ≤ stop → stop ≤ (state ends.file).disk.clock
        → Uses (uses ++ told_by stop (commands_in Stores state IsVersion AreTwo IsUsedUp Lasts session) ∷ [])
        ((state ends.file).disk.was stop)
    loaded : {uses : List (List (Command × Reply))} {shown : Shown} {disk : Disk} {count : ℕ} {was is : State}
        (text : List ℕ) (goal : Option ℕ) (said : Reply) (moment : Moment) → Uses uses shown
        → IsFound Stores shown disk → IsOpened Stores disk count was
        → IsTurn Stores (Command.load text goal) said was is → moment.disk ≡ is.disk → (stop : ℕ)
        → was.disk.clock ≤ stop → stop ≤ is.disk.clock
        → Uses (uses ++ told_by stop (record { command = Command.load text goal; reply = said; moment = moment } ∷ [])
        ∷ []) (is.disk.was stop)
    asked : {uses : List (List (Command × Reply))} {shown : Shown} {disk : Disk} {count : ℕ} {was is : State}
        → Uses uses shown → IsFound Stores shown disk → IsOpened Stores disk count was → IsAsked Stores was is
        → (stop : ℕ) → was.disk.clock ≤ stop → stop ≤ is.disk.clock → Uses (uses ++ [] ∷ []) (is.disk.was stop)
    growth : {uses : List (List (Command × Reply))} {shown : Shown} {disk : Disk} {count pages : ℕ} {was is : State}
        → Uses uses shown → IsFound Stores shown disk → IsOpened Stores disk count was → IsGrowth Stores pages was is
        → (stop : ℕ) → was.disk.clock ≤ stop → stop ≤ is.disk.clock → Uses (uses ++ [] ∷ []) (is.disk.was stop)
    nothing : {uses : List (List (Command × Reply))} {shown : Shown} {disk later : Disk} → Uses uses shown
        → IsFound Stores shown disk → LeavesOnly disk later (MayLeave disk.now) → (stop : ℕ) → disk.clock ≤ stop
        → stop ≤ later.clock → Uses uses (later.was stop)

-- of whatever a stop leaves the headline holds, with sittings in which just these commands were answered, each with its
-- reply; in each at most one more was begun
abbrev pub HeadlineHolds : (ℕ → Layout) → List (List (Command × Reply)) → Image → Type 0
HeadlineHolds Stores uses image =
    (sittings : List Sitting) × (map (λ sitting. sitting.answered) sittings ≡ uses) × Headline Stores sittings image
