use Rattle.sector_disk.proofs.laws.present_is_now.Goals as goal

pub returns : goal.returns
returns g c = λ disk. (g.D.SectorDisk.disk disk).now_allows
