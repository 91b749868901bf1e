use Rattle.command_line.proofs.CommandWords.{asks_nothing, not_taken, taken}
use Rattle.command_line.proofs.words.parsed.Goals as goal

pub returns-in-Ok-clause-ok : goal.returns-in-Ok-clause-ok
returns-in-Ok-clause-ok c = taken c.in_ok-command.command _ c.in_ok-command.ensures c.in-Ok.matches c.in-Ok.ensures.ok.2 c.in-Ok.ensures.kinds
    c.asked_or_wrong.result c.asked_or_wrong.ensures.ok

pub returns-in-Ok-clause-err : goal.returns-in-Ok-clause-err
returns-in-Ok-clause-err c = asks_nothing c.in_ok-command.command _ c.in_ok-command.ensures c.in-Ok.matches c.in-Ok.ensures.ok.2 c.in-Ok.ensures.kinds
    c.asked_or_wrong.result c.asked_or_wrong.ensures.err

pub returns-clause-err : goal.returns-clause-err
returns-clause-err c = not_taken c.in_ok-command.command _ c.in_ok-command.ensures c.in-Err.error c.in-Err.ensures.kinds
