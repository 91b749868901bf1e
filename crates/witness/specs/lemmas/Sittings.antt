-- What is known of the table of the small game from one call to the next.
use Rattle.std.specs.Prelude.{◌≡◌, ℕ, List, [], ◌∷◌, Option, None, Some, false, IsTrue, IfSome}
use Rattle.std.specs.List.{AllByRecursion}
use Rattle.sector_disk.specs.Disk.{Disk, size, MayLeave}
use Rattle.retrograde.specs.Stored.{view_of}
use Rattle.retrograde.specs.View.{IsFinished}
use Rattle.game_file.specs.Kept.{Kept, Layout}
use Rattle.game_file.specs.State.{State}
use Rattle.solver.specs.declared.replies.Reply.{Reply}
use Rattle.solver.specs.Held.{IsSound}
use Rattle.solver.specs.Histories.{Sitting, IsSitting, History}
use Rattle.solver.specs.Machine.{Command, load, work}
use Rattle.solver.specs.Queries.{OfKept}
use Rattle.witness.specs.Game.{witness_text}

-- the command loads the small game without a goal, or works
abbrev pub IsOwn : Command → Type 0
IsOwn (load text goal) = (text ≡ witness_text) × (goal ≡ None)
IsOwn (work units) = Unit {0}

-- so does each that was answered
abbrev pub AreOwn : List (Command × Reply) → Type 0
AreOwn [] = Unit {0}
AreOwn ((command, reply) ∷ answered) = IsOwn command × AreOwn answered

-- so does each command of the sitting
pub record IsOwnSitting (sitting : Sitting) : Type 0 where
  pub answered : AreOwn sitting.answered
  pub in_doubt : IfSome sitting.in_doubt IsOwn

module _ (Stores : ℕ → Layout) where
  -- from the one state to the other there is a sitting of this kind, at whose end the disk shows what it shows now
  pub record EndsOwnSitting (was is : State) : Type 0 where
    pub sitting : Sitting
    pub own : IsOwnSitting sitting
    pub one : IsSitting Stores was sitting is.disk.now

  -- an honest disk of 256 sectors, after some sittings with a table that was made on it, in which the small game was loaded at most,
  -- and work was done
  pub record IsBehindSittings (disk : Disk) : Type 0 where
    pub honest : IsTrue disk.honest
    pub sectors : size disk ≡ 256
    pub sittings : List Sitting
    pub own : AllByRecursion IsOwnSitting sittings
    pub history : History Stores sittings disk.now

  -- an honest disk as it is found after a stop of such a one
  pub record IsFoundBehind (found : Disk) : Type 0 where
    pub honest : IsTrue found.honest
    pub disk : Disk
    pub behind : IsBehindSittings disk
    pub left : MayLeave disk.now found.now.contents

-- this is a table of the small game, without a goal
abbrev pub IsItsTable : Kept → Type 0
IsItsTable kept = (kept.text ≡ witness_text) × (kept.goal ≡ None)

-- no game is loaded, or it is the small one
abbrev pub IsNoneOrIt : Option Kept → Type 0
IsNoneOrIt None = Unit {0}
IsNoneOrIt (Some kept) = IsItsTable kept

-- the small game is loaded
abbrev pub IsIt : Option Kept → Type 0
IsIt = OfKept IsItsTable

-- and its table is finished
abbrev pub IsItFinished : Option Kept → Type 0
IsItFinished = OfKept (λ kept. IsItsTable kept × IsFinished (view_of kept.table))

-- a solver that is open, on an honest disk, with a locally sound table of which this holds
pub record HasSuchTable (Such : Option Kept → Type 0) (state : State) : Type 0 where
  pub honest : IsTrue state.disk.honest
  pub is_open : state.closed ≡ false
  pub sound : IsSound state.kept
  pub such : Such state.kept
