use Rattle.sector_disk.specs.lemmas.Moments.{reads_left}
use Rattle.sector_disk.proofs.laws.reads_are_an_image.Goals as goal

pub returns : goal.returns
returns g c = λ disk. reads_left (g.D.SectorDisk.disk disk)
