-- What the numbers in the bytes of a record stand for, in each file, and the table that has no record.
use Rattle.std.specs.Prelude.{ℕ, ◌==◌, false, if◌then◌else◌, List, [], Option, None, Some}
use Rattle.rbg_game.specs.declared.roles.Player.{Player}
use Rattle.rbg_game.specs.declared.roles.Player.TheVariants.{First, Second}
use Rattle.retrograde.specs.declared.records.State.{State}
use Rattle.retrograde.specs.declared.records.State.TheVariants.{Known, Expanded, Settled, Processed}
use Rattle.retrograde.specs.Stored.{Stored}

-- the state with this number
abbrev pub state_in : ℕ → State
state_in number = if number == 0 then Known else if number == 1 then Expanded else if number == 2 then Settled else Processed

-- the winner with this number, none for 0
abbrev pub winner_in : ℕ → Option Player
winner_in number = if number == 0 then None else if number == 1 then Some First else Some Second

-- no position, and nothing else
abbrev pub nothing : Stored (List ℕ)
nothing = record { positions = []; records = []; has_edge = λ i p. false; order = [] }
