use Rattle.std.proofs.Common.{◌∙◌, ap}
use Rattle.in_process.specs.Rooms.{IsOnTable, GivesAnswers}
use Rattle.in_process.proofs.InRooms.{on_none, on_found, gives_answers, moved}
use Rattle.in_process.proofs.room_calls.rbg_answers.Goals.{in-Some-take, in-None}
use Rattle.in_process.proofs.room_calls.rbg_answers.Goals as goal

pub returns-in_default : goal.returns-in_default
returns-in_default c = IsOnTable.no_memory c.in_default.ensures.kept

pub returns : goal.returns
returns c = elim c.match-take.branch [
  | in-Some-take w ↦ on_found w.in-Some-take.table _ (c.deref_mut.ensures.value ∙ c.in-Some.ensures.taken) w.in-Some-take.ensures.there
      w.in-Some-take.ensures.taken w.deref_mut-in-Some-take-2.ensures.value w.put.ensures (c.put_tables.ensures ∙ ap (λ b. b.value) w.tables-is)
      (moved (λ told count was status. GivesAnswers c.args.out.now told count was w.give_answers.new.self status) w.out-is w.count-is w.status-is
      w.deref_mut-in-Some-take.ensures.value
      (gives_answers w.give_answers.ensures.given w.give_answers.ensures.kept w.give_answers.ensures.none w.give_answers.ensures.wait
      w.give_answers.auto.out w.status_of_given-status.ensures.given w.status_of_given-status.ensures.too_long))
  | in-None w ↦ on_none (c.deref_mut.ensures.value ∙ c.in-Some.ensures.taken) w.in-None.ensures.absent w.in-None.ensures.kept
      (c.put_tables.ensures ∙ ap (λ b. b.value) w.tables-is) w.status-is
]
