use Rattle.std.proofs.Common.{ap, refl, subst}
use Rattle.solver.specs.Solvers.{state}
use Rattle.session.specs.Seen.{seen}
use Rattle.session.specs.Sessions.{IsSession, session_state}
use Rattle.session.proofs.line_by_line.lines_on.Goals as goal
use Rattle.session.proofs.line_by_line.lines_on.Goals.{in-Work, in-Look}

pub returns-clause-came : goal.returns-clause-came
returns-clause-came g c = λ ready honest.
    let (bytes, consumed, session) = c.answer_all-status.ensures.came ready honest c.begun-dialogue.ensures.none in
    let ends = session_state c.answer_all-status.new.solver.file c.answer_all-status.new.dialogue.manner in (
      bytes,
      ends,
      consumed,
      subst (λ b. IsSession g.F.GameFile.stores g.F.GameFile.state g.F.Versions.is_version g.F.Versions.are_two g.F.Versions.is_used_up g.F.GameFile.lasts bytes b
          ends (g.R.Read.remaining c.answer_all-status.new.input)
          (seen state g.W.Write.contents c.args.out.now c.args.moments.now)
          (seen state g.W.Write.contents c.answer_all-status.new.out c.answer_all-status.new.moments)
          c.answer_all-status.result)
          (ap (λ listings. record { file = c.args.solver.now.file; listings = listings }) c.begun-dialogue.ensures.kept) session,
      elim c.match-manner.branch [
        | in-Work w ↦ rw w.solver-is (w.give_back.ensures.state (c.answer_all-status.ensures.ready ready) (c.answer_all-status.ensures.honest ready honest))
        | in-Look w ↦ rw w.solver-is refl
      ],
    )
