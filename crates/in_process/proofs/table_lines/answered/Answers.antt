use Rattle.std.proofs.Common.{refl, sym}
use Rattle.in_process.specs.Lines.{AreLinesAnswered}
use Rattle.in_process.proofs.Answered.{lines_answered}
use Rattle.in_process.proofs.table_lines.answered.Goals as goal

pub returns-in_default : goal.returns-in_default
returns-in_default c = AreLinesAnswered.no_memory refl refl refl

pub returns : goal.returns
returns c =
    let (read, cut, session) = c.lines_over-status.ensures c.in-Ok.ensures.honest in
    let unfailed = rw c.in-Ok.ensures.unfailed at session in
    let empty = rw c.new-text.ensures.items at unfailed in
    let begun = rw c.new-moments.ensures at empty in
    let text = rw (sym c.deref.ensures.value) at begun in
    lines_answered _ _ _ read _ (record {
      contents = c.in-Ok.ensures.contents;
      synced = c.in-Ok.ensures.synced;
      honest = c.in-Ok.ensures.honest;
    }) cut (_, text) c.bytes.ensures
    c.give_table.ensures.no_memory c.give_table.ensures.given c.give_table.ensures.done c.give_table.ensures.too_long
