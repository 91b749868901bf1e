use Rattle.std.proofs.Common.{◌≢◌, ℕ, subst}
use Rattle.root_pair.specs.lemmas.Frames.{IsWrittenElsewhere}
use Rattle.root_pair.proofs.gate.put_spare.Goals as goal

pub returns-clause-left : goal.returns-clause-left
returns-clause-left g c =
    subst (λ (at : ℕ). IsWrittenElsewhere (λ k. k ≢ at) (g.D.SectorDisk.disk c.args.disk.now)
    (g.D.SectorDisk.disk c.put.new.disk)) c.spare_slot.ensures c.put.ensures.left
