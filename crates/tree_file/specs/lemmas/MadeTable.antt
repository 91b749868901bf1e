-- Opening a table that was just made.
use Rattle.game_file.specs.declared.fault.FileFault.{FileFault}
use Rattle.game_file.specs.declared.fault.FileFault.TheVariants.{Damaged, OldLayout}

-- an older layout there is a damage: it was just written
abbrev pub of_new : FileFault → FileFault
of_new OldLayout = Damaged
of_new fault = fault
