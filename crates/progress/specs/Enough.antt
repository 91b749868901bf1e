-- How many units of work a game takes, and how many were asked for.
use Rattle.std.specs.Prelude.{ℕ, ◌+◌, ◌≤◌, List, [], ◌∷◌, length, map, Contains, Option, None, Some}
use Rattle.retrograde.specs.Graph.{Graph, IsReachable}
use Rattle.retrograde.specs.Stored.{view_of}
use Rattle.retrograde.specs.Units.{processed_in_view}
use Rattle.retrograde.specs.View.{View, IsFinished}
use Rattle.game_file.specs.Kept.{Kept}
use Rattle.solver.specs.Histories.{Sitting}
use Rattle.solver.specs.Machine.{Command, work}
use Rattle.solver.specs.declared.replies.Reply.{Reply}
use Rattle.solver.specs.declared.replies.Reply.TheVariants.{Worked}

-- the positions that play can come to are this many at most: a list of no more has each of them
pub record HasAtMost {P : Type 0} (graph : Graph P) (n : ℕ) : Type 0 where
  pub positions : List P
  pub as_many : length positions ≤ n
  pub each : (x : P) → IsReachable graph x → Contains positions x

-- the units of a view: each position that is expanded is one, and each that is processed is one more
abbrev pub units_of : {P : Type 0} → View P → ℕ
units_of view = view.expanded + processed_in_view view

-- how many units were done on this table since its game was loaded
abbrev pub units_in_all : Kept → ℕ
units_in_all kept = units_of (view_of kept.table)

-- how many units a command asked for that was answered with counts; no other command asks for any
abbrev pub units_of_one : Command → Reply → ℕ
units_of_one (work units) (Worked done counts) = units
units_of_one _ _ = 0

-- how many units the answered commands asked for
abbrev pub units_asked : List (Command × Reply) → ℕ
units_asked [] = 0
units_asked ((command, reply) ∷ answered) = units_of_one command reply + units_asked answered

-- and those of many lists of them, as sittings of lines told them
abbrev pub units_told : List (List (Command × Reply)) → ℕ
units_told [] = 0
units_told (answered ∷ others) = units_asked answered + units_told others

-- and those of all sittings; a command that was begun and not answered counts nothing
abbrev pub units_asked_in : List Sitting → ℕ
units_asked_in sittings = units_told (map (λ sitting. sitting.answered) sittings)

-- a game is loaded, and its table is finished
abbrev pub IsSolved : Option Kept → Type 0
IsSolved None = ⊥
IsSolved (Some kept) = IsFinished (view_of kept.table)
