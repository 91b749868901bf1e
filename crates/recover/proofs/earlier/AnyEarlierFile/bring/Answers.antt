use Rattle.std.proofs.Common.{inr, sym, subst}
use Rattle.solver.specs.Opened.{IsOpened}
use Rattle.recover.proofs.earlier.AnyEarlierFile.bring.Goals as goal

pub returns-in-Ok-clause-moved : goal.returns-in-Ok-clause-moved
returns-in-Ok-clause-moved g c = record {
  was = g.F.GameFile.state c.into_file-file.result;
  opened =
      subst (λ f. IsOpened g.F.GameFile.stores (g.F.Device.SectorDisk.disk c.args.disk) (g.F.Device.SectorDisk.failures c.args.disk)
      (g.F.GameFile.state f)) (sym c.into_file-file.ensures) c.in_ok-open.ensures.ok.opened;
  moved = c.in-Ok.ensures.moved;
}

pub returns-in-Err-clause-refused : goal.returns-in-Err-clause-refused
returns-in-Err-clause-refused g c = inr (record {
  was = g.F.GameFile.state c.into_file-file.result;
  opened =
      subst (λ f. IsOpened g.F.GameFile.stores (g.F.Device.SectorDisk.disk c.args.disk) (g.F.Device.SectorDisk.failures c.args.disk)
      (g.F.GameFile.state f)) (sym c.into_file-file.ensures) c.in_ok-open.ensures.ok.opened;
  why = c.in-Err.refused.fault;
  is = c.into.ensures;
  left = c.in-Err.ensures.left;
  cause = c.in-Err.ensures.cause;
})
