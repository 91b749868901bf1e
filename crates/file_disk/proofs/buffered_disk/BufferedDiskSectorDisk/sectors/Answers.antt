use Rattle.std.proofs.Common.{sym}
use Rattle.file_disk.proofs.Disks.{size_is}
use Rattle.file_disk.proofs.buffered_disk.BufferedDiskSectorDisk.sectors.Goals as goal

pub returns : goal.returns
returns g c = sym (size_is _ _ _ _)
