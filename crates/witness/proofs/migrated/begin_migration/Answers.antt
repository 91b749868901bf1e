use Rattle.std.proofs.Common.{inr}
use Rattle.witness.proofs.Migrations.{begun_so}
use Rattle.witness.proofs.migrated.begin_migration.Goals as goal

pub returns-in-Ok : goal.returns-in-Ok
returns-in-Ok g c =
    begun_so g.First.EarlierFile.stores g.Second.EarlierFile.stores g.Today.GameFile.stores _ _ _ _ c.in-Ok._which c.in-Ok.ensures.migrated
    c.in-Ok.ensures.current

pub returns-in-Err : goal.returns-in-Err
returns-in-Err g c = inr (inr (c.in-Err.refused.fault, c.in-Err.ensures.refused))
