-- Faults of the tokens and of the grammar, as faults of a game.
use Rattle.rbg_text.specs.declared.fault.ReadError.{ReadError}
use Rattle.rbg_text.specs.declared.fault.ReadError.TheVariants.{Memory, Syntax}
use Rattle.rbg_read.specs.declared.fault.GameFault.{GameFault}
use Rattle.rbg_read.specs.declared.fault.GameFault.TheVariants as cause

-- the fault of a game that one of its text is
abbrev pub fault_of : ReadError → GameFault
fault_of Memory = cause.OutOfMemory
fault_of Syntax = cause.Syntax
