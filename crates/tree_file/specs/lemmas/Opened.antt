-- What it is that a file was opened, or turned back as it was made.
use Rattle.std.specs.Prelude.{◌≡◌, ◌≢◌, ◌<◌, ℕ, IsTrue}
use Rattle.sector_disk.specs.Disk.{Disk}
use Rattle.root_pair.specs.Root.{HoldsRoot}
use Rattle.game_file.specs.Calls.{IsOpenedFile}
use Rattle.game_file.specs.State.{pages_of}
use Rattle.game_file.specs.declared.fault.FileFault.{FileFault}
use Rattle.game_file.specs.declared.fault.FileFault.TheVariants.{Damaged}
use Rattle.tree_table.specs.Held.{StoresTrees}
use Rattle.tree_file.specs.File.{File, IsWholeFile, UsesNoOther, state_of}

-- what this disk stores is at work, between commands: its root is the one that the disk holds, there are as many pages as the root says, or as
-- there is room for, and each page that the root does not name is free
pub record IsFileRead (layout : ℕ) (disk : Disk) (count : ℕ) (file : File) : Type 0 where
  pub whole : IsWholeFile layout file
  pub opened : IsOpenedFile (StoresTrees layout) disk count (state_of file)
  pub root : IsTrue disk.honest → HoldsRoot file.work.store.root disk.now.contents
  pub all : layout < 3 → (state_of file).capacity ≡ pages_of disk
  pub alone : UsesNoOther file

-- a file that has another count of pages gives back its disk as it is, for it is damaged
pub record IsTurnedBack (pages : ℕ) (file : File) (back : Disk) (failed : ℕ) (told : FileFault) : Type 0 where
  pub disk : back ≡ (state_of file).disk
  pub failures : failed ≡ (state_of file).failures
  pub fault : told ≡ Damaged
  pub cause : (state_of file).capacity ≢ pages
