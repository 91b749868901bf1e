-- What is stated of a file in memory.
use Rattle.std.specs.Prelude.{ℕ, List}
use Rattle.file_disk.specs.declared.memory_file.MemoryFile.{MemoryFile}
use Rattle.file_disk.specs.Events.{Happened}
use Rattle.file_disk.specs.Noted.{noted_in}

-- what reads give
abbrev pub bytes_of : MemoryFile → List ℕ
bytes_of f = f.bytes.items

-- and what they gave at the last sync
abbrev pub synced_of : MemoryFile → List ℕ
synced_of f = f.synced.items

-- and what happened to it
abbrev pub events_of : MemoryFile → List Happened
events_of f = noted_in f.past
