-- How many units were asked for, in the words of the headline in brief.
use Rattle.std.specs.Prelude.{ℕ, ◌+◌, List, [], ◌∷◌}
use Rattle.solver.specs.Machine.{Command, work}
use Rattle.headline.specs.Brief.{BriefAnswer, BriefSitting, worked}

-- how many units a command asked for that was answered with a count; no other command asks for any
abbrev pub units_for : Command → BriefAnswer → ℕ
units_for (work units) (worked done) = units
units_for _ _ = 0

-- how many units the answered commands asked for
abbrev pub units_for_all : List (Command × BriefAnswer) → ℕ
units_for_all [] = 0
units_for_all ((command, answer) ∷ answered) = units_for command answer + units_for_all answered

-- and those of all sittings; a command that was begun and not answered counts nothing
abbrev pub units_for_sittings : List BriefSitting → ℕ
units_for_sittings [] = 0
units_for_sittings (sitting ∷ sittings) = units_for_all sitting.answered + units_for_sittings sittings
