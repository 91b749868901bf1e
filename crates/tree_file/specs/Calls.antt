-- What the calls of a table leave of its file.
use Rattle.std.specs.Prelude.{◌≡◌}
use Rattle.table.specs.declared.fault.TableFault.{TableFault}
use Rattle.tree_table.specs.WorkTable.{WorkStays, WorkGoesOn, WorkFails}
use Rattle.tree_file.specs.File.{File}

-- calls that only read
pub record FileStays (old new : File) : Type 0 where
  pub work : WorkStays old.work new.work
  pub game : new.game ≡ old.game

-- calls that were answered
pub record FileGoesOn (old new : File) : Type 0 where
  pub work : WorkGoesOn old.work new.work
  pub game : new.game ≡ old.game

-- and then one that was not
pub record FileFails (old new : File) (fault : TableFault) : Type 0 where
  pub work : WorkFails old.work new.work fault
  pub game : new.game ≡ old.game
