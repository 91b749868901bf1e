use Rattle.std.proofs.lemmas.Result.{IfOk-weaker}
use Rattle.command_line.proofs.CommandLine.{more_word}
use Rattle.command_line.proofs.game_words.actions_command.Goals as goal

pub returns : goal.returns
returns c = IfOk-weaker c.arg.result _ _ (λ r h. more_word c.named.ensures c.game_word.ensures h) c.arg.ensures
