-- What a power failure leaves.
use Rattle.std.specs.Prelude.{◌⊎◌, Option, None}
use Rattle.sector_disk.specs.Disk.{Image, Shown, Disk, LeavesOnly, MayLeave}
use Rattle.root_pair.specs.Root.{IsTableImage}
use Rattle.game_file.specs.Kept.{Kept, Layout}

module _ (Stores : Layout) where
  -- a stop now leaves this table
  abbrev pub LeavesNow : Disk → Option Kept → Type 0
  LeavesNow disk kept = (image : Image) → MayLeave disk.now image → Stores image kept

  -- from the one moment to the other a stop leaves this table
  abbrev pub LeavesTable : Disk → Disk → Option Kept → Type 0
  LeavesTable old new kept = LeavesOnly old new (λ image. Stores image kept)

  -- from the one moment to the other a stop leaves the one table or the other
  abbrev pub LeavesEither : Disk → Disk → Option Kept → Option Kept → Type 0
  LeavesEither old new was is = LeavesOnly old new (λ image. Stores image was ⊎ Stores image is)

  -- no table, or what a stop could leave before, or the empty table
  abbrev pub OldOrEmpty : Shown → Image → Type 0
  OldOrEmpty old image = IsTableImage image → MayLeave old image ⊎ Stores image None
