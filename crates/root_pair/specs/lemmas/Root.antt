-- What the steps within `create` write, and which sectors they do not touch.
use Rattle.std.specs.Prelude.{◌≡◌, ℕ, ◌≤◌, List}
use Rattle.sector_disk.specs.Disk.{sector, Shown, AllSynced}
use Rattle.root_pair.specs.Root.{blank_gate}

-- not a sector of the gate or of a slot
abbrev pub IsClosed : ℕ → Type 0
IsClosed k = 1 ≤ k → 4 ≤ k

-- the gate and both slots are written, and all is synced
pub record IsLaid (root : List ℕ) (old new : Shown) : Type 0 where
  pub gate : sector new.contents 1 ≡ blank_gate
  pub slot : sector new.contents 2 ≡ root
  pub other_slot : sector new.contents 3 ≡ root
  pub synced : AllSynced new
