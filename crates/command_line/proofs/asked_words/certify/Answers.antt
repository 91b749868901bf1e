use Rattle.std.proofs.Common.{refl}
use Rattle.command_line.proofs.CommandLine.{is_there, not_there}
use Rattle.command_line.proofs.asked_words.certify.Goals as goal

pub returns-in_default : goal.returns-in_default
returns-in_default c = λ asked it. c.in_default.ensures it.1 it.4

pub returns-in_default-2 : goal.returns-in_default-2
returns-in_default-2 c = λ asked it. not_there _ _ it.0 c.in_ok-file.ensures c.in_default-2.is it.3

pub returns : goal.returns
returns c = (c.in-Some-2.file, c.in-Some.number, refl, is_there _ _ _ c.in_ok-file.ensures c.in-Some-2.is, c.in-Some.ensures)
