-- A table is short of pages only where few are free.
use Rattle.std.proofs.Common.{◌≡◌, ℕ, ◌≤◌, Some, subst}
use Rattle.rbg_game.specs.Games.{Game}
use Rattle.rbg_read.specs.Reads.{Reads}
use Rattle.rbg_read.proofs.OneGame.{one_game}
use Rattle.retrograde.specs.Sound.{IsLocallySound}
use Rattle.game_table.specs.Entries.{HasAtMostMoves, pages_taken}
use Rattle.game_table.specs.lemmas.Pages.{wants_few}
use Rattle.game_file.specs.Kept.{Kept}
use Rattle.solver.specs.Held.{IsSound, graph_in, wide_in}
use Rattle.solver.specs.Machine.{IsShortOfPages}

pub short_with_few : (units free moves : ℕ) (kept : Kept) (game : Game) → IsShortOfPages units free (Some kept) → IsSound (Some kept)
    → Reads kept.text game → HasAtMostMoves (graph_in game kept) moves → free ≤ pages_taken moves units
short_with_few units free moves kept game short (other, is_read, sound) also few =
    let same : other ≡ game = one_game kept.text other game is_read also in
    wants_few (graph_in game kept) (wide_in game kept) moves few kept.table units free
    (short game also (subst (λ (g : Game). IsLocallySound (graph_in g kept) (wide_in g kept) kept.table) same sound))
