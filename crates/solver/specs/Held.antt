-- The table that an image holds, and the one that is to be trusted.
use Rattle.std.specs.Prelude.{ℕ, List, Option, None, Some}
use Rattle.sector_disk.specs.Disk.{Image}
use Rattle.rbg_game.specs.Games.{Game}
use Rattle.rbg_read.specs.Reads.{Reads}
use Rattle.legal_moves.specs.Sources.{IsWideAt, graph_of}
use Rattle.retrograde.specs.Graph.{Graph}
use Rattle.retrograde.specs.Sound.{IsLocallySound}
use Rattle.game_table.specs.Tables.{ArePositions}
use Rattle.game_file.specs.Kept.{Kept, Layout}

-- the game of a table as a graph of positions, packed as the table has them and with its goal: where it starts, who has the turn, who is
-- ahead, and where a move leads
abbrev pub graph_in : Game → Kept → Graph (List ℕ)
graph_in game kept = graph_of kept.packing kept.goal game

-- the search for the moves of the position reaches too many
abbrev pub wide_in : Game → Kept → List ℕ → Type 0
wide_in game kept = IsWideAt kept.packing game

-- the text reads to this game, and each position of the table is one of its positions
pub record IsOf (game : Game) (kept : Kept) : Type 0 where
  pub reads : Reads kept.text game
  pub positions : ArePositions kept.packing game kept.table

-- no game is loaded, or the text reads to one and the table has its positions
abbrev pub IsOfAGame : Option Kept → Type 0
IsOfAGame None = Unit {0}
IsOfAGame (Some kept) = (game : Game) × IsOf game kept

module _ (Stores : Layout) where
  -- the image stores this table, and it is a game's: what `open` gives
  pub record Holds (image : Image) (kept : Option Kept) : Type 0 where
    pub stores : Stores image kept
    pub of_a_game : IsOfAGame kept

-- no game is loaded, or the table is locally sound for the game that the text reads to
abbrev pub IsSound : Option Kept → Type 0
IsSound None = Unit {0}
IsSound (Some kept) = (game : Game) × Reads kept.text game × IsLocallySound (graph_in game kept) (wide_in game kept) kept.table
