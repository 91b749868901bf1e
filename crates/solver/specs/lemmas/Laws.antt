-- What holds of every table that a solver keeps, for readers in src/laws.rt and for proofs here.
use Rattle.std.specs.Prelude.{◌≡◌, ◌⊎◌, ◌↔◌, ℕ, List, Option, None, Some, IsTrue}
use Rattle.std.proofs.Common.{inl, inr, subst}
use Rattle.sector_disk.specs.Disk.{Image, Disk, MayLeave}
use Rattle.sector_disk.specs.lemmas.Moments.{reads_left}
use Rattle.rbg_game.specs.Games.{Game}
use Rattle.rbg_game.specs.declared.roles.Player.{Player}
use Rattle.rbg_read.specs.Reads.{Reads}
use Rattle.rbg_read.proofs.OneGame.{one_game}
use Rattle.retrograde.specs.Graph.{IsReachable}
use Rattle.retrograde.specs.Right.{IsRight}
use Rattle.retrograde.specs.Sound.{IsLocallySound}
use Rattle.retrograde.specs.Stored.{view_of}
use Rattle.retrograde.specs.Values.{WonIn, Drawn}
use Rattle.retrograde.specs.View.{IsKnown, HasNumber, HasValue, IsFinished}
use Rattle.retrograde.proofs.Finished.{reach_is_known, draws, values_are_won}
use Rattle.retrograde.proofs.Sound.{sound_right}
use Rattle.game_table.specs.lemmas.Laws.{starts_are_positions, sound_tables_fit}
use Rattle.best_line.specs.declared.answers.Value.{Value}
use Rattle.best_line.specs.declared.answers.Value.TheVariants.{Won, Drawn as NobodyWins, Open}
use Rattle.best_line.specs.Values.{IsValue}
use Rattle.best_line.specs.Laws.{IsSo}
use Rattle.game_file.specs.Kept.{Kept, Layout, in_any}
use Rattle.game_file.specs.State.{State}
use Rattle.solver.specs.Held.{Holds, IsSound, graph_in, wide_in}
use Rattle.solver.specs.Opened.{IsOpened}

-- an image that stores a sound table holds it
pub a_sound_table_is_held : (Stores : Layout) (image : Image) (kept : Option Kept) → Stores image kept → IsSound kept
    → Holds Stores image kept
a_sound_table_is_held Stores image None stores sound = record { stores = stores; of_a_game = tt }
a_sound_table_is_held Stores image (Some kept) stores (game, is_read, sound) =
    let (positions, fits) = sound_tables_fit kept.packing kept.goal game kept.table (starts_are_positions kept.text game is_read) sound in
    record { stores = stores; of_a_game = (game, record { reads = is_read; positions = positions }) }

-- where a stop left the one table or the other, that is the one that is opened
pub what_was_left_is_opened : (Stores : ℕ → Layout) (disk : Disk) (count : ℕ) (state : State) (one other : Option Kept)
    → IsOpened Stores disk count state → IsTrue disk.honest
    → ((image : Image) → MayLeave disk.now image → Holds (in_any Stores) image one ⊎ Holds (in_any Stores) image other) → (state.kept ≡ one)
    ⊎ (state.kept ≡ other)
what_was_left_is_opened Stores disk count state one other opened honest left = each (left disk.now.contents (reads_left disk))
  where
    each : Holds (in_any Stores) disk.now.contents one ⊎ Holds (in_any Stores) disk.now.contents other → (state.kept ≡ one) ⊎ (state.kept ≡ other)
    each (inl holds) = inl (opened.only honest one holds)
    each (inr holds) = inr (opened.only honest other holds)

-- a sound table is right for the game that its text reads to
pub a_sound_table_is_right : (kept : Kept) (game : Game) → IsSound (Some kept) → Reads kept.text game
    → IsRight (graph_in game kept) (view_of kept.table)
a_sound_table_is_right kept game (other, is_read, sound) is =
    sound_right (graph_in game kept) (wide_in game kept) kept.table
    (subst (λ (g : Game). IsLocallySound (graph_in g kept) (wide_in g kept) kept.table) (one_game kept.text other game is_read is) sound)

-- each settled position is won by the named player in the named number of moves
pub what_is_settled_is_won : (kept : Kept) (game : Game) → IsSound (Some kept) → Reads kept.text game
    → (x : List ℕ) (w : Player) (n : ℕ) → HasValue (view_of kept.table) x w n → WonIn (graph_in game kept) w n x
what_is_settled_is_won kept game sound is_read x w n has = values_are_won (graph_in game kept) (view_of kept.table)
    (a_sound_table_is_right kept game sound is_read) x w n has

-- a finished table has the positions that play can come to
pub finished_is_all : (kept : Kept) (game : Game) → IsSound (Some kept) → Reads kept.text game → IsFinished (view_of kept.table)
    → (x : List ℕ) → IsKnown (view_of kept.table) x ↔ IsReachable (graph_in game kept) x
finished_is_all kept game sound is_read finished x =
    let right = a_sound_table_is_right kept game sound is_read in
    (right.moves.reached x, reach_is_known (graph_in game kept) (view_of kept.table) right finished x)

-- and in it the unsettled are the drawn
pub finished_leaves_the_drawn : (kept : Kept) (game : Game) → IsSound (Some kept) → Reads kept.text game → IsFinished (view_of kept.table)
    → (i : ℕ) (x : List ℕ) → HasNumber (view_of kept.table) i x → ((view_of kept.table).value i ≡ None) ↔ Drawn (graph_in game kept) x
finished_leaves_the_drawn kept game sound is_read finished i x number =
    draws (graph_in game kept) (view_of kept.table) (a_sound_table_is_right kept game sound is_read) finished i x number

-- what is answered of a position of a sound table is so in the game
pub a_value_is_so : (kept : Kept) (game : Game) → IsSound (Some kept) → Reads kept.text game → (i : ℕ) (x : List ℕ) (value : Value)
    → HasNumber (view_of kept.table) i x
    → IsValue (view_of kept.table) i value → IsSo (graph_in game kept) x value
a_value_is_so kept game sound is_read i x (Won w n) number is = what_is_settled_is_won kept game sound is_read x w n (i, number, is)
a_value_is_so kept game sound is_read i x NobodyWins number (none, finished) =
    (finished_leaves_the_drawn kept game sound is_read finished i x number).0 none
a_value_is_so kept game sound is_read i x Open number is = tt
