use Rattle.std.proofs.Common.{subst, sym}
use Rattle.std.specs.Prelude.{IfOk}
use Rattle.command_line.specs.Commands.{AsksIfAny}
use Rattle.command_line.specs.Words.{AsksBy}
use Rattle.command_line.proofs.CommandLine.{rows_met}
use Rattle.command_line.proofs.asked_words.asked_in.Goals as goal

pub returns-in-Some : goal.returns-in-Some
returns-in-Some c =
    subst (λ met. IfOk c.asked_for.result (AsksIfAny (AsksBy met))) (sym (rows_met _ _ _ c.in-Some.ensures.name c.in-Some.ensures.rows)) c.asked_for.ensures
