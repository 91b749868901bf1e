-- The codes of faults.
use Rattle.std.specs.Prelude.{codes}
use Rattle.rbg_text.specs.Token.{Text}
use Rattle.rbg_read.specs.declared.fault.GameFault.{GameFault}
use Rattle.rbg_read.specs.declared.fault.GameFault.TheVariants as cause

-- the code that is printed
abbrev pub fault_code : GameFault → Text
fault_code cause.Syntax = codes "G1"
fault_code cause.Section = codes "G2"
fault_code cause.NotTwoPlayers = codes "G3"
fault_code cause.UnknownName = codes "G4"
fault_code cause.RepeatedName = codes "G5"
fault_code cause.BoundTooLarge = codes "G6"
fault_code cause.TooLarge = codes "G7"
fault_code cause.ExpressionTooLarge = codes "G8"
fault_code cause.SwitchInPattern = codes "G9"
fault_code cause.OutOfMemory = codes "G10"
