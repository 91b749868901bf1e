use Rattle.std.proofs.Common.{refl}
use Rattle.command_line.proofs.CommandLine.{is_there, not_there}
use Rattle.command_line.proofs.asked_words.create.Goals as goal

pub returns-in_default : goal.returns-in_default
returns-in_default c = λ asked it. c.in_default.ensures it.1 it.5

pub returns-in_default-2 : goal.returns-in_default-2
returns-in_default-2 c = λ asked it. not_there _ _ it.0 c.in_ok-file.ensures c.in_default-2.is it.4

pub returns : goal.returns
returns c = (
  c.in-Some-2.file,
  c.in-Some.pages,
  c.is_given-is_reserved.result,
  refl,
  is_there _ _ _ c.in_ok-file.ensures c.in-Some-2.is,
  c.in-Some.ensures,
  c.is_given-is_reserved.ensures,
)
