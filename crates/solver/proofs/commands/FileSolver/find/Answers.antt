use Rattle.solver.proofs.Questions.{text_found, text_unknown, text_of_some, text_of_none, find_cause, find_asked}
use Rattle.solver.proofs.Frames.{game_kept, only_asked, untold_first, untold_later}
use Rattle.solver.proofs.Exits.{passed_on, gives_none}
use Rattle.solver.proofs.commands.FileSolver.find.Goals as goal

pub returns-in-Some-2 : goal.returns-in-Some-2
returns-in-Some-2 g c = record {
  number = λ ready honest.
      let file = c.args.self.now.file in
      let (k, is, made) = game_kept c.args.self.now c.in_ok-source.ensures.game ready in
      let stored = g.met.F.GameFile.whole_stored file k ready.0 honest is in
      rw is
      (text_found k _ stored.1 stored.2 _
      (g.met.F.Table.counts_are file stored.0) c.in_ok-source.source.now made c.in-Some-2.number c.in-Some.packed.items c.args.text.now
      c.in-Some.ensures (rw c.in-Some-2.is at c.in_ok-number.ensures.found stored.0));
  left = only_asked g.met.F.GameFile.whole_stays g.met.F.GameFile.goes_on_lasts g.met.F.Table.stays_goes_on c.args.self.now _ c.number_of.ensures.read.stays;
  err = untold_later c.in_ok-source.ensures.ok (λ ready. tt);
}

pub returns-in-None : goal.returns-in-None
returns-in-None g c = record {
  number = λ ready. tt;
  left = only_asked g.met.F.GameFile.whole_stays g.met.F.GameFile.goes_on_lasts g.met.F.Table.stays_goes_on c.args.self.now _ c.number_of.ensures.read.stays;
  err = untold_later c.in_ok-source.ensures.ok (λ ready.
      let file = c.args.self.now.file in
      let (k, is, made) = game_kept c.args.self.now c.in_ok-source.ensures.game ready in (
        rw is (text_of_some k c.in_ok-source.source.now made c.in-Some.packed.items c.args.text.now c.in-Some.ensures),
        λ honest.
            let stored = g.met.F.GameFile.whole_stored file k ready.0 honest is in
            rw is
            (text_unknown k _ stored.1 stored.2 _ (g.met.F.Table.counts_are file stored.0) c.in_ok-source.source.now made c.in-Some.packed.items c.args.text.now
            c.in-Some.ensures (rw c.in-None.is at c.in_ok-number.ensures.unknown stored.0)),
      ));
}

pub returns-in_default : goal.returns-in_default
returns-in_default g c = record {
  number = λ ready. tt;
  left = only_asked g.met.F.GameFile.whole_stays g.met.F.GameFile.goes_on_lasts g.met.F.Table.stays_goes_on c.args.self.now _ (g.met.F.Table.stays_here _);
  err = untold_later c.in_ok-source.ensures.ok (λ ready.
      let (k, is, made) = game_kept c.args.self.now c.in_ok-source.ensures.game ready in
      rw is (text_of_none k c.in_ok-source.source.now made c.args.text.now c.in_default.ensures));
}

pub returns-in_err-source : goal.returns-in_err-source
returns-in_err-source g c = record {
  number = λ ready. gives_none c.from_residual.result _ _ c.from_residual.ensures;
  left = only_asked g.met.F.GameFile.whole_stays g.met.F.GameFile.goes_on_lasts g.met.F.Table.stays_goes_on c.args.self.now _ (g.met.F.Table.stays_here _);
  err = untold_first c.from_residual.ensures c.in_err-source.ensures.first
      (λ ready. find_asked (g.F.GameFile.state c.args.self.now.file) (g.F.GameFile.state c.args.self.now.file) c.args.text.now _
      (c.in_err-source.ensures.cause ready.1));
}

pub returns-in_err-number : goal.returns-in_err-number
returns-in_err-number g c = record {
  number = λ ready. gives_none c.from_residual-in_err-number.result _ _ c.from_residual-in_err-number.ensures;
  left = only_asked g.met.F.GameFile.whole_stays g.met.F.GameFile.goes_on_lasts g.met.F.Table.stays_goes_on c.args.self.now _ c.number_of.ensures.read.stays;
  err = untold_later c.in_ok-source.ensures.ok (λ ready.
      let file = c.args.self.now.file in
      passed_on _ c.from_residual-in_err-number.result _ c.from_residual-in_err-number.ensures
      (find_cause (g.F.GameFile.state file) (g.F.GameFile.state c.number_of.new.self) c.args.text.now c.in_err-number.field-0.0 c.in_err-number.ensures.room
      (g.met.F.GameFile.fails_for file c.number_of.new.self c.in_err-number.field-0.0 ready.0 c.in_err-number.ensures.fault)));
}
