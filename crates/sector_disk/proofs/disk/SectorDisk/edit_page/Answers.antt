use Rattle.std.proofs.Common.{refl}
use Rattle.sector_disk.specs.lemmas.Moments.{goes_on_refl, throughout_start}
use Rattle.sector_disk.proofs.disk.SectorDisk.edit_page.Goals as goal

pub returns-clause-put : goal.returns-clause-put
returns-clause-put g c = record { kept = λ h. throughout_start _ _; time = goes_on_refl _; same_size = refl }
