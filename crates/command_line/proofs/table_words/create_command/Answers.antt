use Rattle.std.proofs.lemmas.Result.{IfOk-weaker}
use Rattle.command_line.proofs.CommandLine.{more_word}
use Rattle.command_line.proofs.table_words.create_command.Goals as goal

pub returns : goal.returns
returns c = IfOk-weaker c.arg-3.result _ _
    (λ r h. more_word (more_word (more_word c.named.ensures c.file_word.ensures c.in_ok-arg.ensures) c.pages_word.ensures c.in_ok-arg-2.ensures)
    c.reserve_word.ensures h) c.arg-3.ensures
