use Rattle.std.proofs.Common.{subst}
use Rattle.retrograde.specs.Stored.{view_of}
use Rattle.best_line.specs.Causes.{IsLineCause}
use Rattle.best_line.specs.declared.fault.LineFault.{LineFault}
use Rattle.solver.proofs.Questions.{unsettled, never, line_found, told_found, stops_found, stops_unsettled, line_cause, line_numbered}
use Rattle.solver.proofs.Frames.{game_kept, only_asked, untold_first, untold_later}
use Rattle.solver.proofs.Exits.{passed_on, gives_none}
use Rattle.solver.proofs.commands.FileSolver.line.Goals as goal

pub line-requires-clause-known : goal.line-requires-clause-known
line-requires-clause-known g c = c.in_ok-source.ensures.there

pub returns : goal.returns
returns g c = record {
  line = λ ready sound honest.
      let file = c.args.self.now.file in
      let (k, is, made) = game_kept c.args.self.now c.in_ok-source.ensures.game ready in
      let stored = g.met.F.GameFile.whole_stored file k ready.0 honest is in
      rw is
      (line_found k _ stored.1 stored.2 _
      (g.met.F.Table.counts_are file stored.0) c.in_ok-source.source.now made c.args.number c.in_ok-line.field-0.items (rw is at sound)
      (λ here. rw c.moves.ensures.is at c.in_ok-line.ensures.line stored.0 here));
  told = λ ready honest.
      let file = c.args.self.now.file in
      let (k, is, made) = game_kept c.args.self.now c.in_ok-source.ensures.game ready in
      let stored = g.met.F.GameFile.whole_stored file k ready.0 honest is in
      rw is
      (told_found k _ stored.1 stored.2 _ (g.met.F.Table.counts_are file stored.0) c.in_ok-source.source.now made c.args.number c.in_ok-line.field-0.items
      (λ fits. rw c.moves.ensures.is at c.in_ok-line.ensures.told stored.0 fits));
  left = only_asked g.met.F.GameFile.whole_stays g.met.F.GameFile.goes_on_lasts g.met.F.Table.stays_goes_on c.args.self.now _ c.line.ensures.read.stays;
  err = untold_later c.in_ok-source.ensures.ok (λ ready. tt);
}

pub returns-in_err-source : goal.returns-in_err-source
returns-in_err-source g c = record {
  line = λ ready sound. gives_none c.from_residual.result _ _ c.from_residual.ensures;
  told = λ ready. gives_none c.from_residual.result _ _ c.from_residual.ensures;
  left = only_asked g.met.F.GameFile.whole_stays g.met.F.GameFile.goes_on_lasts g.met.F.Table.stays_goes_on c.args.self.now _ (g.met.F.Table.stays_here _);
  err = untold_first c.from_residual.ensures c.in_err-source.ensures.first
      (λ ready. line_numbered (g.F.GameFile.state c.args.self.now.file) (g.F.GameFile.state c.args.self.now.file) c.args.number _
      (c.in_err-source.ensures.cause ready.0 ready.1));
}

pub returns-in_err-line : goal.returns-in_err-line
returns-in_err-line g c = record {
  line = λ ready sound. gives_none c.from_residual-in_err-line.result _ _ c.from_residual-in_err-line.ensures;
  told = λ ready. gives_none c.from_residual-in_err-line.result _ _ c.from_residual-in_err-line.ensures;
  left = only_asked g.met.F.GameFile.whole_stays g.met.F.GameFile.goes_on_lasts g.met.F.Table.stays_goes_on c.args.self.now _ c.line.ensures.read.stays;
  err = untold_later c.in_ok-source.ensures.ok (λ ready.
      let file = c.args.self.now.file in
      let (k, is, made) = game_kept c.args.self.now c.in_ok-source.ensures.game ready in
      passed_on _ c.from_residual-in_err-line.result _ c.from_residual-in_err-line.ensures
      (line_cause (g.F.GameFile.state file) (g.F.GameFile.state c.line.new.table) c.args.number c.in_err-line.field-0.0
      (λ none honest.
      let stored = g.met.F.GameFile.whole_stored file k ready.0 honest is in
      rw is
      (unsettled k _ stored.1 stored.2 _ (g.met.F.Table.counts_are file stored.0) c.in_ok-source.source.now made c.args.number c.in_ok-source.ensures.there
      (stops_unsettled k _ stored.1 stored.2 _
      (g.met.F.Table.counts_are file stored.0) c.in_ok-source.source.now made c.args.number c.in_err-line.field-0.0 none
      (λ fits. rw c.moves.ensures.is at c.in_err-line.ensures.err.stops stored.0 fits))))
      (λ honest sound.
      let stored = g.met.F.GameFile.whole_stored file k ready.0 honest is in
      let cause = never k _ stored.1 stored.2 _ (g.met.F.Table.counts_are file stored.0) c.in_ok-source.source.now made
      (IsLineCause (view_of (g.F.Table.stored file)) c.args.number c.in_err-line.field-0.0) (rw is at sound)
      (λ here. rw c.moves.ensures.is at c.in_err-line.ensures.err.cause stored.0 here) in (
        (λ i. subst (λ (f : LineFault). IsLineCause (view_of (g.F.Table.stored file)) c.args.number f) i cause),
        (λ i. subst (λ (f : LineFault). IsLineCause (view_of (g.F.Table.stored file)) c.args.number f) i cause),
      ))
      (λ honest.
      let stored = g.met.F.GameFile.whole_stored file k ready.0 honest is in
      rw is
      (stops_found k _ stored.1 stored.2 _ (g.met.F.Table.counts_are file stored.0) c.in_ok-source.source.now made c.args.number c.in_err-line.field-0.0
      (λ fits. rw c.moves.ensures.is at c.in_err-line.ensures.err.stops stored.0 fits)))
      c.in_err-line.ensures.err.room c.in_err-line.ensures.err.fault (λ f fails. g.met.F.GameFile.fails_for file c.line.new.table f ready.0 fails)));
}
