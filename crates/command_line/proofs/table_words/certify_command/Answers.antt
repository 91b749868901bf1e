use Rattle.std.proofs.lemmas.Result.{IfOk-weaker}
use Rattle.command_line.proofs.CommandLine.{more_word}
use Rattle.command_line.proofs.table_words.certify_command.Goals as goal

pub returns : goal.returns
returns c = IfOk-weaker c.arg-2.result _ _
    (λ r h. more_word (more_word c.named.ensures c.file_word.ensures c.in_ok-arg.ensures) c.free_word.ensures h) c.arg-2.ensures
