use Rattle.std.proofs.Common.{refl}
use Rattle.command_line.proofs.CommandLine.{is_there, not_there}
use Rattle.command_line.proofs.asked_words.check.Goals as goal

pub returns-in_default : goal.returns-in_default
returns-in_default c = λ asked it. not_there _ _ it.0 c.in_ok-certificate.ensures c.in_default.is it.3

pub returns : goal.returns
returns c = (c.in-Some.certificate, c.in_ok-game.game, refl, is_there _ _ _ c.in_ok-certificate.ensures c.in-Some.is, c.in_ok-game.ensures)
