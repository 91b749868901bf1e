-- What is stated of a disk of which nothing is known.
use Rattle.std.specs.Prelude.{ℕ, zero, suc, false, List, [], ◌∷◌, ◌++◌, replicate}
use Rattle.sector_disk.specs.declared.log.Event.{Event}
use Rattle.sector_disk.specs.declared.log.Event.TheVariants.{Extended}
use Rattle.sector_disk.specs.Disk.{Disk}
use Rattle.sector_disk.specs.Past.{memory_disk}

-- the past of a disk that was made longer sector by sector, so that a longer disk goes on from a shorter one
unfoldable pub grown : ℕ → List Event
grown zero = []
grown (suc n) = grown n ++ Extended n ∷ []

-- that past, sectors of which no byte is stated, and no word that the device keeps the model
abbrev pub unknown_disk : ℕ → Disk
unknown_disk sectors = record (memory_disk (grown sectors) (replicate sectors [])) { honest = false }
