use Rattle.std.proofs.Common.{rules}
use Rattle.solver.proofs.Questions.{verdict_found, so_found, sound_found, wide_found, audit_cause, ok_is, audit_asked}
use Rattle.solver.proofs.Frames.{game_kept, only_asked, untold_first, untold_later}
use Rattle.solver.proofs.Exits.{passed_on, gives_none, gives_not}
use Rattle.solver.proofs.commands.FileSolver.audit.Goals as goal

pub audit-requires : goal.audit-requires
audit-requires g c = search rules

pub returns : goal.returns
returns g c = record {
  verdict = λ ready honest.
      let file = c.args.self.now.file in
      let (k, is, made) = game_kept c.args.self.now c.in_ok-source.ensures.game ready in
      let stored = g.met.F.GameFile.whole_stored file k ready.0 honest is in
      rw is
      (verdict_found k _ stored.1 stored.2 _ (g.met.F.Table.counts_are file stored.0) c.in_ok-source.source.now made c.in_ok-audit.field-0
      (λ fits. rw c.moves.ensures.is at c.in_ok-audit.ensures.answer stored.0 fits));
  so = λ ready right honest.
      let file = c.args.self.now.file in
      let (k, is, made) = game_kept c.args.self.now c.in_ok-source.ensures.game ready in
      let stored = g.met.F.GameFile.whole_stored file k ready.0 honest is in
      rw is
      (so_found k _ stored.1 stored.2 _ (g.met.F.Table.counts_are file stored.0) c.in_ok-source.source.now made
      (λ fits. rw c.moves.ensures.is at c.in_ok-audit.ensures.so stored.0 fits (ok_is _ _ right)));
  sound = λ ready right honest.
      let file = c.args.self.now.file in
      let (k, is, made) = game_kept c.args.self.now c.in_ok-source.ensures.game ready in
      let stored = g.met.F.GameFile.whole_stored file k ready.0 honest is in
      rw is
      (sound_found k _ stored.1 stored.2 _ (g.met.F.Table.counts_are file stored.0) c.in_ok-source.source.now made
      (λ fits. rw c.moves.ensures.is at c.in_ok-audit.ensures.sound stored.0 fits (ok_is _ _ right)));
  left = only_asked g.met.F.GameFile.whole_stays g.met.F.GameFile.goes_on_lasts g.met.F.Table.stays_goes_on c.args.self.now _ c.audit.ensures.read.stays;
  err = untold_later c.in_ok-source.ensures.ok (λ ready. tt);
}

pub returns-in_err-source : goal.returns-in_err-source
returns-in_err-source g c = record {
  verdict = λ ready. gives_none c.from_residual.result _ _ c.from_residual.ensures;
  so = λ ready right. absurd (gives_not c.from_residual.result _ _ c.from_residual.ensures right);
  sound = λ ready right. absurd (gives_not c.from_residual.result _ _ c.from_residual.ensures right);
  left = only_asked g.met.F.GameFile.whole_stays g.met.F.GameFile.goes_on_lasts g.met.F.Table.stays_goes_on c.args.self.now _ (g.met.F.Table.stays_here _);
  err = untold_first c.from_residual.ensures c.in_err-source.ensures.first
      (λ ready. audit_asked (g.F.GameFile.state c.args.self.now.file) (g.F.GameFile.state c.args.self.now.file) _ (c.in_err-source.ensures.cause ready.1));
}

pub returns-in_err-audit : goal.returns-in_err-audit
returns-in_err-audit g c = record {
  verdict = λ ready. gives_none c.from_residual-in_err-audit.result _ _ c.from_residual-in_err-audit.ensures;
  so = λ ready right. absurd (gives_not c.from_residual-in_err-audit.result _ _ c.from_residual-in_err-audit.ensures right);
  sound = λ ready right. absurd (gives_not c.from_residual-in_err-audit.result _ _ c.from_residual-in_err-audit.ensures right);
  left = only_asked g.met.F.GameFile.whole_stays g.met.F.GameFile.goes_on_lasts g.met.F.Table.stays_goes_on c.args.self.now _ c.audit.ensures.read.stays;
  err = untold_later c.in_ok-source.ensures.ok (λ ready.
      let file = c.args.self.now.file in
      let (k, is, made) = game_kept c.args.self.now c.in_ok-source.ensures.game ready in
      passed_on _ c.from_residual-in_err-audit.result _ c.from_residual-in_err-audit.ensures
      (audit_cause (g.F.GameFile.state file) (g.F.GameFile.state c.audit.new.table) c.in_err-audit.field-0.0
      (λ wide honest.
      let stored = g.met.F.GameFile.whole_stored file k ready.0 honest is in
      rw is
      (wide_found k _ stored.1 stored.2 _ (g.met.F.Table.counts_are file stored.0) c.in_ok-source.source.now made
      (rw c.moves.ensures.is at c.in_err-audit.ensures.err.wide wide stored.0)))
      c.in_err-audit.ensures.err.room c.in_err-audit.ensures.err.fault (λ f fails. g.met.F.GameFile.fails_for file c.audit.new.table f ready.0 fails)));
}
