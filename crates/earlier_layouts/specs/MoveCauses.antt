-- Why a table is not moved from a file of one layout into one of another.
use Rattle.std.specs.Prelude.{◌≡◌, ℕ, Some, IsSome, IsTrue}
use Rattle.sector_disk.specs.Disk.{Grew}
use Rattle.table.specs.Fit.{FitsTogether}
use Rattle.game_file.specs.declared.fault.FileFault.{FileFault}
use Rattle.game_file.specs.declared.fault.FileFault.TheVariants.{Disk as DiskFailed, Damaged, TableFull, OutOfMemory, Inconsistent}
use Rattle.game_file.specs.Kept.{Kept}
use Rattle.game_file.specs.State.{State}

-- the disk failed, or is not honest; a game is loaded, and too few pages are free or memory is short; or its positions have no bytes
abbrev pub MoveCause : State → ℕ → FileFault → Type 0
MoveCause old now DiskFailed = Grew old.failures now
MoveCause old now Damaged = ¬ IsTrue old.disk.honest
MoveCause old now TableFull = IsSome old.kept
MoveCause old now OutOfMemory = IsSome old.kept
MoveCause old now Inconsistent = IsTrue old.disk.honest → (kept : Kept) × (old.kept ≡ Some kept) × FitsTogether 0 kept.table
MoveCause old now _ = ⊥
