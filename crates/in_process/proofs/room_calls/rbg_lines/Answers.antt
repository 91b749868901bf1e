use Rattle.std.proofs.Common.{length, ◌∙◌, ap}
use Rattle.in_process.specs.Rooms.{IsOnTable}
use Rattle.in_process.specs.declared.held.HeldTable.{HeldTable}
use Rattle.in_process.proofs.InRooms.{on_none, on_found, answers_lines}
use Rattle.in_process.proofs.room_calls.rbg_lines.Goals.{in-Some-take, in-None}
use Rattle.in_process.proofs.room_calls.rbg_lines.Goals as goal

pub returns-in_default : goal.returns-in_default
returns-in_default c = IsOnTable.no_memory c.in_default.ensures.kept

pub returns : goal.returns
returns c = elim c.match-take.branch [
  | in-Some-take w ↦ on_found w.in-Some-take.table _ (c.deref_mut.ensures.value ∙ c.in-Some.ensures.taken) w.in-Some-take.ensures.there
      w.in-Some-take.ensures.taken w.deref_mut-in-Some-take-2.ensures.value w.put.ensures (c.put_tables.ensures ∙ ap (λ b. b.value) w.tables-is)
      (answers_lines w.deref_mut-in-Some-take.ensures.value c.lines_of-manner.ensures w.status-is
      (w.count-is ∙ (w.waiting.ensures ∙ ap (λ (it : HeldTable). length it.answers.items) w.deref.ensures)) w.answer-status.ensures.answered
      w.answer-status.ensures.again)
  | in-None w ↦ on_none (c.deref_mut.ensures.value ∙ c.in-Some.ensures.taken) w.in-None.ensures.absent w.in-None.ensures.kept
      (c.put_tables.ensures ∙ ap (λ b. b.value) w.tables-is) w.status-is
]
