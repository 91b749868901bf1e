use Rattle.std.proofs.Common.{inr}
use Rattle.earlier_layouts.specs.Calls.{state_of}
use Rattle.earlier_layouts.specs.InFile.{file_in}
use Rattle.recover.proofs.FirstLayout.{by_copy}
use Rattle.recover.proofs.earlier.FlatTableEarlierFileTreeFilePageStore3.bring.Goals as goal

pub returns-in-Err-clause-refused : goal.returns-in-Err-clause-refused
returns-in-Err-clause-refused g c = inr (record {
  was = state_of (file_in c.in_ok-file.file);
  opened = c.in_ok-file.ensures.opened;
  why = c.in-Err.refused.fault;
  is = c.into.ensures;
  left = c.in-Err.ensures.left;
  cause = by_copy (state_of (file_in c.in_ok-file.file)) (g.D.SectorDisk.failures c.in-Err.refused.disk) c.in-Err.refused.fault
      c.in-Err.ensures.cause;
})
