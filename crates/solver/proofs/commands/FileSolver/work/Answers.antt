use Rattle.std.proofs.Common.{◌≡◌, ℕ, ◌<◌, ◌≤◌, refl, sym, ◌∙◌, ap, arith, Err}
use Rattle.frontier.specs.declared.fault.StepFault.{StepFault}
use Rattle.solver.proofs.Frames.{game_kept, left_here, left_kept, not_worked_first, not_worked_later}
use Rattle.solver.proofs.Loads.{source_of_text}
use Rattle.solver.proofs.Exits.{passed_on, gives_none}
use Rattle.solver.proofs.Refusals.{nothing_done}
use Rattle.solver.proofs.Turns.{ahead_then}
use Rattle.solver.proofs.Work.{short_of_pages, full_unit, commit_not_full, asked_not_full, works_on, stops_on, unfinished_on, worked_done, kept_sound, not_kept, idle_done, given_up, left_so, work_refused, asked_work}
use Rattle.solver.proofs.commands.FileSolver.work.Goals as goal

-- no unit is done
none_done : (done : ℕ) → done ≤ 0 → done ≡ 0
none_done done few = omega arith

-- or some are
some_done : (done : ℕ) → 0 < done → done ≡ 0 → ⊥
some_done done some none = omega arith

pub work-requires : goal.work-requires
work-requires g c = g.met.F.GameFile.few c.args.self.now.file

pub returns-in_ok-commit-clause-done : goal.returns-in_ok-commit-clause-done
returns-in_ok-commit-clause-done g c = λ ready.
    let file = c.args.self.now.file in
    let (k, is, made) = game_kept c.args.self.now c.in_ok-source.ensures.game ready in
    let put = c.in_ok-commit.ensures.ok file k ready.0 is c.in-Ok.ensures.ok.ahead
    (λ honest. let stored = g.met.F.GameFile.whole_stored file k ready.0 honest is in c.in-Ok.ensures.fits stored.0 (rw stored.1 stored.2)) in
    worked_done _ _ _ c.in_ok-source.source.now k made is _ c.in-Ok.done _
    (λ honest. let stored = g.met.F.GameFile.whole_stored file k ready.0 honest is in
    works_on c.in_ok-source.source.now k _ stored.1 _ _ _ _ c.count.ensures.is (c.in-Ok.ensures.works stored.0))
    _ (λ honest. c.counts-counts.ensures ∙ g.met.F.Table.counts_are c.work.new.table
    (c.in-Ok.ensures.ok.honest.0 (g.met.F.GameFile.whole_stored file k ready.0 honest is).0))
    (λ honest is_open. g.met.F.GameFile.whole_leaves c.commit.new.self put.0 honest is_open)
    (ahead_then (g.met.F.GameFile.goes_ahead file c.work.new.table c.in-Ok.ensures.ok.ahead) c.commit.ensures.ahead).goes_on put.1

pub returns-in_ok-commit-clause-idle : goal.returns-in_ok-commit-clause-idle
returns-in_ok-commit-clause-idle g c = λ none. absurd (some_done _ c.if-done-gt0.true none)

pub returns-in_ok-commit-clause-left : goal.returns-in_ok-commit-clause-left
returns-in_ok-commit-clause-left g c = record {
  ready = λ ready.
      let file = c.args.self.now.file in
      let (k, is, made) = game_kept c.args.self.now c.in_ok-source.ensures.game ready in
      let put = c.in_ok-commit.ensures.ok file k ready.0 is c.in-Ok.ensures.ok.ahead
      (λ honest. let stored = g.met.F.GameFile.whole_stored file k ready.0 honest is in c.in-Ok.ensures.fits stored.0 (rw stored.1 stored.2)) in (
        put.0,
        rw c.in_ok-source.ensures.game
            (source_of_text c.in_ok-source.source.now _ k.text k.packing k.goal put.1.text put.1.packing put.1.goal made.reads made.packing made.goal),
      );
  lasts = g.met.F.GameFile.lasts_then c.args.self.now.file c.work.new.table c.commit.new.self
      (g.met.F.GameFile.goes_on_lasts c.args.self.now.file c.work.new.table c.in-Ok.ensures.ok.ahead) c.commit.ensures.lasts;
  ahead = ahead_then (g.met.F.GameFile.goes_ahead c.args.self.now.file c.work.new.table c.in-Ok.ensures.ok.ahead) c.commit.ensures.ahead;
  sound = λ ready honest sound.
      let file = c.args.self.now.file in
      let (k, is, made) = game_kept c.args.self.now c.in_ok-source.ensures.game ready in
      let put = c.in_ok-commit.ensures.ok file k ready.0 is c.in-Ok.ensures.ok.ahead
      (λ honest. let stored = g.met.F.GameFile.whole_stored file k ready.0 honest is in c.in-Ok.ensures.fits stored.0 (rw stored.1 stored.2)) in
      kept_sound _ _ _ c.in_ok-source.source.now k made is _ c.in-Ok.done _
      (λ honest. let stored = g.met.F.GameFile.whole_stored file k ready.0 honest is in
      works_on c.in_ok-source.source.now k _ stored.1 _ _ _ _ c.count.ensures.is (c.in-Ok.ensures.works stored.0))
      honest sound put.1;
}

pub returns-in_ok-commit-clause-err : goal.returns-in_ok-commit-clause-err
returns-in_ok-commit-clause-err g c = not_worked_later c.in_ok-source.ensures.ok (λ ready. tt) (λ ready honest. tt)

pub returns-else-done-gt0-clause-done : goal.returns-else-done-gt0-clause-done
returns-else-done-gt0-clause-done g c = λ ready.
    let file = c.args.self.now.file in
    let (k, is, made) = game_kept c.args.self.now c.in_ok-source.ensures.game ready in
    let same = c.in-Ok.ensures.idle (none_done _ c.if-done-gt0.false) in
    rw same
    (idle_done _ _ c.in_ok-source.source.now k made is _ c.in-Ok.done (g.F.Table.stored c.work.new.table) _
    (λ honest. let stored = g.met.F.GameFile.whole_stored file k ready.0 honest is in
    works_on c.in_ok-source.source.now k _ stored.1 _ _ _ _ c.count.ensures.is (c.in-Ok.ensures.works stored.0))
    (λ honest. ap g.F.Table.stored same ∙ (g.met.F.GameFile.whole_stored file k ready.0 honest is).1)
    (λ honest. c.counts-counts.ensures ∙ g.met.F.Table.counts_are c.work.new.table
    (c.in-Ok.ensures.ok.honest.0 (g.met.F.GameFile.whole_stored file k ready.0 honest is).0))
    (λ honest is_open. g.met.F.GameFile.whole_leaves file ready.0 honest is_open) c.in_ok-source.ensures.ok.is_open)

pub returns-else-done-gt0-clause-idle : goal.returns-else-done-gt0-clause-idle
returns-else-done-gt0-clause-idle g c = λ none.
    let same = c.in-Ok.ensures.idle (none_done _ c.if-done-gt0.false) in
    rw same refl

pub returns-else-done-gt0-clause-left : goal.returns-else-done-gt0-clause-left
returns-else-done-gt0-clause-left g c = record {
  ready = λ ready.
      let same = c.in-Ok.ensures.idle (none_done _ c.if-done-gt0.false) in
      rw same ready;
  lasts = g.met.F.GameFile.goes_on_lasts c.args.self.now.file c.work.new.table c.in-Ok.ensures.ok.ahead;
  ahead = g.met.F.GameFile.goes_ahead c.args.self.now.file c.work.new.table c.in-Ok.ensures.ok.ahead;
  sound = λ ready honest sound.
      let same = c.in-Ok.ensures.idle (none_done _ c.if-done-gt0.false) in
      rw same sound;
}

pub returns-else-done-gt0-clause-err : goal.returns-else-done-gt0-clause-err
returns-else-done-gt0-clause-err g c = not_worked_later c.in_ok-source.ensures.ok (λ ready. tt) (λ ready honest. tt)

pub returns-in_err-source : goal.returns-in_err-source
returns-in_err-source g c = record {
  done = λ ready. gives_none c.from_residual.result _ _ c.from_residual.ensures;
  idle = gives_none c.from_residual.result _ _ c.from_residual.ensures;
  left =
      let file = c.args.self.now.file in
      let on = g.met.F.Table.stays_goes_on file file (g.met.F.Table.stays_here file) in
      left_here c.args.self.now (g.met.F.GameFile.goes_on_lasts file file on) (g.met.F.GameFile.goes_ahead file file on);
  err = not_worked_first c.from_residual.ensures c.in_err-source.ensures.first
      (λ ready. nothing_done _ _ _ _ (λ honest is_open. g.met.F.GameFile.whole_leaves c.args.self.now.file ready.0 honest is_open)
      (record { does = λ honest. refl; reason = asked_work _ (g.F.GameFile.state c.args.self.now.file) _ (c.in_err-source.ensures.cause ready.1) }))
      (λ ready full. asked_not_full (g.F.GameFile.state c.args.self.now.file) _ (c.in_err-source.ensures.cause ready.1) full);
}

pub returns-in-Err-clause-done : goal.returns-in-Err-clause-done
returns-in-Err-clause-done g c = λ ready. tt

pub returns-in-Err-clause-idle : goal.returns-in-Err-clause-idle
returns-in-Err-clause-idle g c = tt

pub returns-in-Err-clause-left : goal.returns-in-Err-clause-left
returns-in-Err-clause-left g c =
    let file = c.args.self.now.file in
    let fails = g.F.Table.fails file c.work.new.table in
    left_kept c.args.self.now c.discard.new.self
    (g.met.F.GameFile.lasts_then file c.work.new.table c.discard.new.self
    (left_so fails c.in-Err.fault c.in-Err.ensures.left (g.met.F.GameFile.goes_on_lasts file c.work.new.table)
    (g.met.F.GameFile.fails_lasts file c.work.new.table))
    c.discard.ensures.lasts)
    (ahead_then
    (left_so fails c.in-Err.fault c.in-Err.ensures.left (g.met.F.GameFile.goes_ahead file c.work.new.table)
    (g.met.F.GameFile.fails_ahead file c.work.new.table))
    c.discard.ensures.ahead)
    (λ ready.
    let given = given_up fails _ c.in-Err.fault c.in-Err.ensures.left (c.discard.ensures.back file ready.0) (λ f. c.discard.ensures.failed file f ready.0) in
    (given.0, (given.1.text, given.1.packing, given.1.goal, given.1.kept)))

pub returns-in-Err-clause-err : goal.returns-in-Err-clause-err
returns-in-Err-clause-err g c =
    not_worked_later c.in_ok-source.ensures.ok
    (λ ready.
    let file = c.args.self.now.file in
    let (k, is, made) = game_kept c.args.self.now c.in_ok-source.ensures.game ready in
    let given = given_up (g.F.Table.fails file c.work.new.table) _ c.in-Err.fault c.in-Err.ensures.left
    (λ ahead. c.discard.ensures.back file ready.0 ahead) (λ f fails. c.discard.ensures.failed file f ready.0 fails) in
    rw c.into.ensures
    (work_refused _ _ _ c.in_ok-source.source.now k made is _ _ (g.F.Table.fails file c.work.new.table)
    (λ f fails. (c.discard.ensures.failed file f ready.0 fails).2)
    (λ honest. let stored = g.met.F.GameFile.whole_stored file k ready.0 honest is in
    unfinished_on c.in_ok-source.source.now k _ stored.1 (c.in-Err.ensures.unfinished stored.0))
    c.in-Err.fault
    (λ honest. let stored = g.met.F.GameFile.whole_stored file k ready.0 honest is in
    stops_on c.in_ok-source.source.now k _ stored.1 _ _ _ c.count.ensures.is (c.in-Err.ensures.cause stored.0))
    (λ honest sound inconsistent.
    let stored = g.met.F.GameFile.whole_stored file k ready.0 honest is in
    c.in-Err.ensures.consistent stored.0 (rw stored.1 sound) (ap (λ (f : StepFault). Err f) inconsistent))
    c.in-Err.ensures.left c.in_ok-source.ensures.ok.is_open given.1
    (λ ahead. (c.discard.ensures.back file ready.0 ahead).2) (λ f fails other. c.discard.ensures.still file f ready.0 fails other)))
    (λ ready honest full.
    let file = c.args.self.now.file in
    let (k, is, made) = game_kept c.args.self.now c.in_ok-source.ensures.game ready in
    let stored = g.met.F.GameFile.whole_stored file k ready.0 honest is in
    let unit = full_unit c.in-Err.fault (sym c.into.ensures ∙ full) in
    short_of_pages c.in_ok-source.source.now k made _ is _ stored.1 _ _ _ c.count.ensures.is
    (λ sound. c.in-Err.ensures.full stored.0 sound (ap (λ (f : StepFault). Err f) unit)))

pub returns-in_err-commit : goal.returns-in_err-commit
returns-in_err-commit g c = record {
  done = λ ready. gives_none c.from_residual-in_err-commit.result _ _ c.from_residual-in_err-commit.ensures;
  idle = gives_none c.from_residual-in_err-commit.result _ _ c.from_residual-in_err-commit.ensures;
  left = left_kept c.args.self.now c.commit.new.self
      (g.met.F.GameFile.lasts_then c.args.self.now.file c.work.new.table c.commit.new.self
      (g.met.F.GameFile.goes_on_lasts c.args.self.now.file c.work.new.table c.in-Ok.ensures.ok.ahead) c.commit.ensures.lasts)
      (ahead_then (g.met.F.GameFile.goes_ahead c.args.self.now.file c.work.new.table c.in-Ok.ensures.ok.ahead) c.commit.ensures.ahead)
      (λ ready.
      let file = c.args.self.now.file in
      let (k, is, made) = game_kept c.args.self.now c.in_ok-source.ensures.game ready in
      let left = c.in_err-commit.ensures.err file k ready.0 is c.in-Ok.ensures.ok.ahead
      (λ honest. let stored = g.met.F.GameFile.whole_stored file k ready.0 honest is in c.in-Ok.ensures.fits stored.0 (rw stored.1 stored.2)) in
      (left.0, (left.1.text, left.1.packing, left.1.goal, left.1.kept)));
  err = not_worked_later c.in_ok-source.ensures.ok
      (λ ready.
      let file = c.args.self.now.file in
      let (k, is, made) = game_kept c.args.self.now c.in_ok-source.ensures.game ready in
      let refused = c.in_err-commit.ensures in
      passed_on _ c.from_residual-in_err-commit.result _ c.from_residual-in_err-commit.ensures
      (not_kept _ _ _ c.in_ok-source.source.now k made is _ c.in-Ok.done _
      (λ honest. let stored = g.met.F.GameFile.whole_stored file k ready.0 honest is in
      works_on c.in_ok-source.source.now k _ stored.1 _ _ _ _ c.count.ensures.is (c.in-Ok.ensures.works stored.0))
      _ (refused.err file k ready.0 is c.in-Ok.ensures.ok.ahead
      (λ honest. let stored = g.met.F.GameFile.whole_stored file k ready.0 honest is in
      c.in-Ok.ensures.fits stored.0 (rw stored.1 stored.2))).1 (refused.cause file k ready.0 is c.in-Ok.ensures.ok.ahead)
      (refused.still file c.in-Ok.ensures.ok.ahead)))
      (λ ready honest.
      let file = c.args.self.now.file in
      let (k, is, made) = game_kept c.args.self.now c.in_ok-source.ensures.game ready in
      passed_on _ c.from_residual-in_err-commit.result _ c.from_residual-in_err-commit.ensures
      (λ full. absurd (commit_not_full k.table (g.F.Table.stored c.work.new.table) (g.F.GameFile.state file) (g.F.GameFile.state c.commit.new.self) _
      (c.in_err-commit.ensures.cause file k ready.0 is c.in-Ok.ensures.ok.ahead) full)));
}
