-- What is stated of a disk of bytes.
use Rattle.sector_disk.specs.Disk.{Disk, with_failed}
use Rattle.sector_disk.specs.Past.{memory_disk}
use Rattle.byte_disk.specs.Pasts.{events_of}
use Rattle.byte_disk.specs.declared.disk.ByteDisk.{ByteDisk}

-- what it shows now and showed before, and that it is honest: the same as of a disk in memory that keeps each sector
-- which was written over; only an extension of it can fail
abbrev pub disk_in : ByteDisk → Disk
disk_in d = with_failed (memory_disk (events_of d.past.value) d.contents.items) d.failures
