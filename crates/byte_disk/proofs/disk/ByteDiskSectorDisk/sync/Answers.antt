use Rattle.std.proofs.Common.{arith}
use Rattle.sector_disk.specs.lemmas.Moments.{steps_failed}
use Rattle.byte_disk.proofs.Kept.{kept_sync, all_synced, synced_more}
use Rattle.byte_disk.proofs.disk.ByteDiskSectorDisk.sync.Goals as goal

pub returns-clause-all : goal.returns-clause-all
returns-clause-all c = λ honest. all_synced _ _ _ c.note_sync.ensures

pub returns-clause-same : goal.returns-clause-same
returns-clause-same c = λ honest. synced_more _ _ _ c.note_sync.ensures

pub returns-clause-time : goal.returns-clause-time
returns-clause-time c = steps_failed _ _ (kept_sync _ _ _ c.note_sync.ensures) (omega arith)
