-- Bytes by sectors.
use Rattle.std.specs.Prelude.{ℕ, ◌/◌, List, length}
use Rattle.std.specs.Simd.{first_chunks}
use Rattle.sector_disk.specs.Disk.{Image}

-- the whole sectors that these bytes make; what stands behind the last of them is none
abbrev pub sectors_of : List ℕ → Image
sectors_of bytes = first_chunks 512 (length bytes / 512) bytes
