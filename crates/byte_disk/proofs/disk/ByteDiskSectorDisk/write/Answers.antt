use Rattle.std.proofs.Common.{arith, ◌≡◌}
use Rattle.std.proofs.lemmas.Grind.{common_steps}
use Rattle.sector_disk.specs.Disk.{sector}
use Rattle.sector_disk.specs.lemmas.Moments.{steps_failed}
use Rattle.byte_disk.proofs.Kept.{kept_write, changed}
use Rattle.byte_disk.proofs.disk.ByteDiskSectorDisk.write.Goals as goal

pub returns-clause-others : goal.returns-clause-others
returns-clause-others c = λ honest. changed _ _ _ _ _ _ c.note_write.ensures

pub returns-clause-time : goal.returns-clause-time
returns-clause-time c =
    let was : c.index.result.now ≡ sector c.args.self.now.contents.items c.args.at = grind (arith, common_steps) in
    steps_failed _ _ (kept_write _ _ _ _ _ _ was c.note_write.ensures) (omega arith)
