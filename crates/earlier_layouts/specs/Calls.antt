-- A file of this layout, by its pages and what is in memory, and what is stated of it.
use Rattle.std.specs.Prelude.{length, Option}
use Rattle.page_store.specs.Store.{Store}
use Rattle.earlier_layouts.specs.Slot.{commits_in}
use Rattle.game_file.specs.Kept.{counts_kept}
use Rattle.game_file.specs.State.{State}
use Rattle.earlier_layouts.specs.declared.game.Game.{Game}
use Rattle.earlier_layouts.specs.File.{FlatFile, kept_of}

-- the file with these pages and this game
abbrev pub file_of : Store → Option Game → FlatFile
file_of s g = record { store = s; game = g }

-- what is stated of such a file
abbrev pub state_of : FlatFile → State
state_of file = record {
  disk = file.store.disk;
  failures = file.store.failures;
  capacity = length file.store.marks;
  closed = file.store.closed;
  commits = commits_in file.store.root;
  counts = counts_kept (kept_of file.game);
  kept = kept_of file.game;
}
