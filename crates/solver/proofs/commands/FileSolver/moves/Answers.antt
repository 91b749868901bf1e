use Rattle.solver.proofs.Frames.{game_kept, only_asked, untold_first, untold_later}
use Rattle.solver.proofs.MoveQuestions.{moves_found, wide_number, no_position, not_sound, moves_cause, moves_numbered}
use Rattle.solver.proofs.Exits.{passed_on, gives_none}
use Rattle.solver.proofs.commands.FileSolver.moves.Goals as goal

pub known_moves-requires-clause-known : goal.known_moves-requires-clause-known
known_moves-requires-clause-known g c = c.in_ok-source.ensures.there

pub returns : goal.returns
returns g c = record {
  moves = λ ready honest.
      let file = c.args.self.now.file in
      let (k, is, made) = game_kept c.args.self.now c.in_ok-source.ensures.game ready in
      let stored = g.met.F.GameFile.whole_stored file k ready.0 honest is in
      rw is
      (moves_found k _ stored.1 c.in_ok-source.source.now made c.args.number c.in_ok-known_moves.field-0 stored.2
      (λ fits. rw c.moves.ensures.is at c.in_ok-known_moves.ensures.moves stored.0 fits));
  left = only_asked g.met.F.GameFile.whole_stays g.met.F.GameFile.goes_on_lasts g.met.F.Table.stays_goes_on c.args.self.now _ c.known_moves.ensures.read.stays;
  err = untold_later c.in_ok-source.ensures.ok (λ ready. tt);
}

pub returns-in_err-source : goal.returns-in_err-source
returns-in_err-source g c = record {
  moves = λ ready. gives_none c.from_residual.result _ _ c.from_residual.ensures;
  left = only_asked g.met.F.GameFile.whole_stays g.met.F.GameFile.goes_on_lasts g.met.F.Table.stays_goes_on c.args.self.now _ (g.met.F.Table.stays_here _);
  err = untold_first c.from_residual.ensures c.in_err-source.ensures.first
      (λ ready. moves_numbered (g.F.GameFile.state c.args.self.now.file) (g.F.GameFile.state c.args.self.now.file) c.args.number _
      (c.in_err-source.ensures.cause ready.0 ready.1));
}

pub returns-in_err-known_moves : goal.returns-in_err-known_moves
returns-in_err-known_moves g c = record {
  moves = λ ready. gives_none c.from_residual-in_err-known_moves.result _ _ c.from_residual-in_err-known_moves.ensures;
  left = only_asked g.met.F.GameFile.whole_stays g.met.F.GameFile.goes_on_lasts g.met.F.Table.stays_goes_on c.args.self.now _ c.known_moves.ensures.read.stays;
  err = untold_later c.in_ok-source.ensures.ok (λ ready.
      let file = c.args.self.now.file in
      let (k, is, made) = game_kept c.args.self.now c.in_ok-source.ensures.game ready in
      passed_on _ c.from_residual-in_err-known_moves.result _ c.from_residual-in_err-known_moves.ensures
      (moves_cause (g.F.GameFile.state file) (g.F.GameFile.state c.known_moves.new.table) c.args.number c.in_err-known_moves.field-0.0
      (λ wide honest.
      let stored = g.met.F.GameFile.whole_stored file k ready.0 honest is in
      rw is
      (wide_number k _ stored.1 c.in_ok-source.source.now made c.args.number
      (rw c.moves.ensures.is at c.in_err-known_moves.ensures.err.wide wide stored.0)))
      (λ none. (
        λ honest sound.
            let stored = g.met.F.GameFile.whole_stored file k ready.0 honest is in
            not_sound k _ stored.1 c.in_ok-source.source.now made c.args.number
            (rw c.moves.ensures.is at c.in_err-known_moves.ensures.err.none none stored.0) (rw is at sound),
        λ honest.
            let stored = g.met.F.GameFile.whole_stored file k ready.0 honest is in
            rw is
            (no_position k _ stored.1 c.in_ok-source.source.now made c.args.number
            (rw c.moves.ensures.is at c.in_err-known_moves.ensures.err.none none stored.0)),
      ))
      c.in_err-known_moves.ensures.err.room c.in_err-known_moves.ensures.err.fault
      (λ f fails. g.met.F.GameFile.fails_for file c.known_moves.new.table f ready.0 fails)));
}
