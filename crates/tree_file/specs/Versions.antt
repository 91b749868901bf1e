-- Versions of a table that are kept in a file.
use Rattle.std.specs.Prelude.{ℕ, List}
use Rattle.retrograde.specs.Stored.{Stored}
use Rattle.tree_table.specs.Versions.{StandsInVersion}
use Rattle.tree_file.specs.declared.kept.Kept.{Kept}
use Rattle.tree_file.specs.File.{File}

-- this version is open, and it is this table
abbrev pub IsVersion : Kept → Stored (List ℕ) → File → Type 0
IsVersion version table file = StandsInVersion version.hold.place version.slot table file.work.store
