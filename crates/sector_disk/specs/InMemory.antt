-- What is stated of a disk in memory.
use Rattle.sector_disk.specs.Disk.{Disk, with_failed}
use Rattle.sector_disk.specs.Past.{memory_disk}
use Rattle.sector_disk.specs.declared.memory.MemDisk.{MemDisk}

-- what it shows now, what it showed before, and that it is honest; only writes, syncs and extensions of it can fail
abbrev pub disk_in : MemDisk → Disk
disk_in m = with_failed (memory_disk m.events.items m.contents.items) m.failures
