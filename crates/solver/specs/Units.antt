-- How many units a command asks for.
use Rattle.std.specs.Prelude.{ℕ}
use Rattle.solver.specs.declared.replies.Units.{Units}

abbrev pub units_in : Units → ℕ
units_in units = units.count
