use Rattle.std.proofs.Common.{subst, sym, ℕ, List}
use Rattle.retrograde.specs.Stored.{Stored, IsTable}
use Rattle.solver.proofs.Questions.{text_unknown, text_of_some, text_of_none, find_cause, find_asked}
use Rattle.solver.proofs.Frames.{game_kept, only_asked, untold_first, untold_later}
use Rattle.solver.proofs.MoveQuestions.{value_told}
use Rattle.solver.proofs.Exits.{passed_on, gives_none}
use Rattle.solver.proofs.commands.FileSolver.find_value.Goals as goal

pub returns-in-Some-number : goal.returns-in-Some-number
returns-in-Some-number g c = record {
  value = λ ready honest.
      let file = c.args.self.now.file in
      let (k, is, made) = game_kept c.args.self.now c.in_ok-source.ensures.game ready in
      let stored = g.met.F.GameFile.whole_stored file k ready.0 honest is in
      let fits = subst (λ (t : Stored (List ℕ)). IsTable t) (sym stored.1) stored.2 in
      rw is
      (value_told k _ stored.1 c.in_ok-source.source.now made c.in-Some.packed.items c.args.text.now c.in-Some-number.field-0 c.in_ok-told.told.value
      c.in-Some.ensures (rw c.in-Some-number.is at c.in_ok-told.ensures.told stored.0 fits));
  left = only_asked g.met.F.GameFile.whole_stays g.met.F.GameFile.goes_on_lasts g.met.F.Table.stays_goes_on c.args.self.now _ c.told_of.ensures.read.stays;
  err = untold_later c.in_ok-source.ensures.ok (λ ready. tt);
}

pub returns-in-None : goal.returns-in-None
returns-in-None g c = record {
  value = λ ready. tt;
  left = only_asked g.met.F.GameFile.whole_stays g.met.F.GameFile.goes_on_lasts g.met.F.Table.stays_goes_on c.args.self.now _ c.told_of.ensures.read.stays;
  err = untold_later c.in_ok-source.ensures.ok (λ ready.
      let file = c.args.self.now.file in
      let (k, is, made) = game_kept c.args.self.now c.in_ok-source.ensures.game ready in (
        rw is (text_of_some k c.in_ok-source.source.now made c.in-Some.packed.items c.args.text.now c.in-Some.ensures),
        λ honest.
            let stored = g.met.F.GameFile.whole_stored file k ready.0 honest is in
            let fits = subst (λ (t : Stored (List ℕ)). IsTable t) (sym stored.1) stored.2 in
            rw is
            (text_unknown k _ stored.1 stored.2 _ (g.met.F.Table.counts_are file stored.0) c.in_ok-source.source.now made c.in-Some.packed.items c.args.text.now
            c.in-Some.ensures (rw c.in-None.is at c.in_ok-told.ensures.told stored.0 fits).0),
      ));
}

pub returns-in_default : goal.returns-in_default
returns-in_default g c = record {
  value = λ ready. tt;
  left = only_asked g.met.F.GameFile.whole_stays g.met.F.GameFile.goes_on_lasts g.met.F.Table.stays_goes_on c.args.self.now _ (g.met.F.Table.stays_here _);
  err = untold_later c.in_ok-source.ensures.ok (λ ready.
      let (k, is, made) = game_kept c.args.self.now c.in_ok-source.ensures.game ready in
      rw is (text_of_none k c.in_ok-source.source.now made c.args.text.now c.in_default.ensures));
}

pub returns-in_err-source : goal.returns-in_err-source
returns-in_err-source g c = record {
  value = λ ready. gives_none c.from_residual.result _ _ c.from_residual.ensures;
  left = only_asked g.met.F.GameFile.whole_stays g.met.F.GameFile.goes_on_lasts g.met.F.Table.stays_goes_on c.args.self.now _ (g.met.F.Table.stays_here _);
  err = untold_first c.from_residual.ensures c.in_err-source.ensures.first
      (λ ready. find_asked (g.F.GameFile.state c.args.self.now.file) (g.F.GameFile.state c.args.self.now.file) c.args.text.now _
      (c.in_err-source.ensures.cause ready.1));
}

pub returns-in_err-told : goal.returns-in_err-told
returns-in_err-told g c = record {
  value = λ ready. gives_none c.from_residual-in_err-told.result _ _ c.from_residual-in_err-told.ensures;
  left = only_asked g.met.F.GameFile.whole_stays g.met.F.GameFile.goes_on_lasts g.met.F.Table.stays_goes_on c.args.self.now _ c.told_of.ensures.read.stays;
  err = untold_later c.in_ok-source.ensures.ok (λ ready.
      let file = c.args.self.now.file in
      passed_on _ c.from_residual-in_err-told.result _ c.from_residual-in_err-told.ensures
      (find_cause (g.F.GameFile.state file) (g.F.GameFile.state c.told_of.new.table) c.args.text.now c.in_err-told.field-0.0 c.in_err-told.ensures.room
      (g.met.F.GameFile.fails_for file c.told_of.new.table c.in_err-told.field-0.0 ready.0 c.in_err-told.ensures.fault)));
}
