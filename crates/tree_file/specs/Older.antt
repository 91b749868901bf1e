-- Images of the disk that hold a table of an earlier layout.
use Rattle.std.specs.Prelude.{◌≤◌, ◌<◌, List, ℕ}
use Rattle.sector_disk.specs.Disk.{Image}
use Rattle.root_pair.specs.Root.{HoldsRoot}
use Rattle.game_file.specs.Fields.{layout_in}

-- the root names a layout before this one, of which there were tables: 0 is none's
abbrev pub IsOlderRoot : ℕ → List ℕ → Type 0
IsOlderRoot layout root = (1 ≤ layout_in root) × (layout_in root < layout)

-- the slot that the gate picks does
pub record IsOlderTable (layout : ℕ) (image : Image) : Type 0 where
  pub root : List ℕ
  pub holds : HoldsRoot root image
  pub older : IsOlderRoot layout root
