use Rattle.std.proofs.lemmas.Result.{IfOk-at_ok, IfOk-weaker}
use Rattle.command_line.specs.Commands.{HasApp, leaf}
use Rattle.command_line.proofs.CommandLine.{more_command}
use Rattle.command_line.proofs.words.with.Goals as goal

pub returns : goal.returns
returns c = λ app shape has below. IfOk-weaker c.subcommand.result _ _
    (λ r h. more_command has (IfOk-at_ok (HasApp (leaf shape)) c.in_ok-more.was below) h) c.subcommand.ensures
