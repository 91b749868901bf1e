use Rattle.solver.proofs.with_game.with_game.Goals as goal

pub returns-in-Err-clause-back : goal.returns-in-Err-clause-back
returns-in-Err-clause-back g c = λ whole. record {
  later = g.F.GameFile.state c.source_in.new.file;
  asked = (c.source_in.ensures.read whole).1;
  disk = c.into_disk.ensures.disk;
  failures = c.into_disk.ensures.failures;
}
