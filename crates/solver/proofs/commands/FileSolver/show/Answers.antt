use Rattle.solver.proofs.Questions.{text_found, no_text, show_cause, show_numbered}
use Rattle.solver.proofs.Frames.{game_kept, only_asked, untold_first, untold_later}
use Rattle.solver.proofs.Exits.{passed_on, gives_none}
use Rattle.solver.proofs.commands.FileSolver.show.Goals as goal

pub packed-requires : goal.packed-requires
packed-requires g c = c.in_ok-source.ensures.there

pub returns-in-Some : goal.returns-in-Some
returns-in-Some g c = record {
  text = λ ready honest.
      let file = c.args.self.now.file in
      let (k, is, made) = game_kept c.args.self.now c.in_ok-source.ensures.game ready in
      let stored = g.met.F.GameFile.whole_stored file k ready.0 honest is in
      rw is
      (text_found k _ stored.1 stored.2 _
      (g.met.F.Table.counts_are file stored.0) c.in_ok-source.source.now made c.args.number c.in_ok-packed.packed.items c.in-Some.text.items
      (rw c.in-Some.is at c.in_ok-text.ensures.some) (c.in_ok-packed.ensures.position stored.0));
  left = only_asked g.met.F.GameFile.whole_stays g.met.F.GameFile.goes_on_lasts g.met.F.Table.stays_goes_on c.args.self.now _ c.packed.ensures.read.stays;
  err = untold_later c.in_ok-source.ensures.ok (λ ready. tt);
}

pub returns-in-None : goal.returns-in-None
returns-in-None g c = record {
  text = λ ready. tt;
  left = only_asked g.met.F.GameFile.whole_stays g.met.F.GameFile.goes_on_lasts g.met.F.Table.stays_goes_on c.args.self.now _ c.packed.ensures.read.stays;
  err = untold_later c.in_ok-source.ensures.ok (λ ready honest sound.
      let file = c.args.self.now.file in
      let (k, is, made) = game_kept c.args.self.now c.in_ok-source.ensures.game ready in
      let stored = g.met.F.GameFile.whole_stored file k ready.0 honest is in
      no_text k _ stored.1 stored.2 _ (g.met.F.Table.counts_are file stored.0) c.in_ok-source.source.now made c.args.number c.in_ok-packed.packed.items
      (c.in_ok-packed.ensures.position stored.0) (rw c.in-None.is at c.in_ok-text.ensures.none) (rw is at sound));
}

pub returns-in_err-source : goal.returns-in_err-source
returns-in_err-source g c = record {
  text = λ ready. gives_none c.from_residual.result _ _ c.from_residual.ensures;
  left = only_asked g.met.F.GameFile.whole_stays g.met.F.GameFile.goes_on_lasts g.met.F.Table.stays_goes_on c.args.self.now _ (g.met.F.Table.stays_here _);
  err = untold_first c.from_residual.ensures c.in_err-source.ensures.first
      (λ ready. show_numbered (g.F.GameFile.state c.args.self.now.file) (g.F.GameFile.state c.args.self.now.file) c.args.number _
      (c.in_err-source.ensures.cause ready.0 ready.1));
}

pub returns-in_err-packed : goal.returns-in_err-packed
returns-in_err-packed g c = record {
  text = λ ready. gives_none c.from_residual-in_err-packed.result _ _ c.from_residual-in_err-packed.ensures;
  left = only_asked g.met.F.GameFile.whole_stays g.met.F.GameFile.goes_on_lasts g.met.F.Table.stays_goes_on c.args.self.now _ c.packed.ensures.read.stays;
  err = untold_later c.in_ok-source.ensures.ok
      (λ ready. passed_on _ c.from_residual-in_err-packed.result _ c.from_residual-in_err-packed.ensures
      (show_cause (g.F.GameFile.state c.args.self.now.file)
      (g.F.GameFile.state c.packed.new.self) c.args.number c.in_err-packed.field-0.0 c.in_err-packed.ensures.room
      (g.met.F.GameFile.fails_for _ _ _ ready.0 c.in_err-packed.ensures.fault)));
}

pub returns-in_err-text : goal.returns-in_err-text
returns-in_err-text g c = record {
  text = λ ready. gives_none c.from_residual-in_err-text.result _ _ c.from_residual-in_err-text.ensures;
  left = only_asked g.met.F.GameFile.whole_stays g.met.F.GameFile.goes_on_lasts g.met.F.Table.stays_goes_on c.args.self.now _ c.packed.ensures.read.stays;
  err = untold_later c.in_ok-source.ensures.ok (λ ready. passed_on _ c.from_residual-in_err-text.result _ c.from_residual-in_err-text.ensures tt);
}
