use Rattle.std.proofs.Common.{ap, refl, Some}
use Rattle.session.proofs.Requests.{come_of_none}
use Rattle.session.proofs.dialogue.begun.Goals as goal
use Rattle.session.proofs.dialogue.begun.Goals.{in-Session, in-Look}

pub returns-clause-kept : goal.returns-clause-kept
returns-clause-kept g c = elim c.match-lines.branch [
  | in-Session w ↦ rw w.manner-is (rw w.in-Session.is (ap Some w.new.ensures.items))
  | in-Look w ↦ rw w.manner-is (rw w.in-Look.is refl)
]

pub returns-clause-none : goal.returns-clause-none
returns-clause-none g c = come_of_none c.new-2.result c.new-2.ensures.empty c.new-2.ensures.short
