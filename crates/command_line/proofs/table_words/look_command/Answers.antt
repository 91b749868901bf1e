use Rattle.std.proofs.Common.{codes, rules}
use Rattle.std.proofs.lemmas.Result.{IfOk-weaker}
use Rattle.clap.specs.Simple.{new_shape}
use Rattle.command_line.specs.Commands.{HasApp, leaf}
use Rattle.command_line.proofs.CommandLine.{more_word}
use Rattle.command_line.proofs.table_words.look_command.Goals as goal

pub returns : goal.returns
returns c =
    let helped : HasApp (leaf (new_shape (codes "look"))) c.after_help.result = record { reads = search rules; local = search rules } in
    IfOk-weaker c.arg-2.result _ _ (λ r h. more_word (more_word helped c.file_word.ensures c.in_ok-arg.ensures) c.quiet_word.ensures h) c.arg-2.ensures
