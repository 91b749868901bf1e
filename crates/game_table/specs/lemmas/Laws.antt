-- What holds of every game and its tables, for readers in src/laws.rt and for proofs here.
use Rattle.std.specs.Prelude.{◌≡◌, ℕ, ◌≤◌, List, length, Option}
use Rattle.std.proofs.Common.{refl, ◌∙◌, ap}
use Rattle.rbg_game.specs.Games.{Game}
use Rattle.rbg_game.specs.Positions.{IsPositionOf}
use Rattle.rbg_text.specs.Token.{Text}
use Rattle.rbg_read.specs.Reads.{Reads, reads}
use Rattle.rbg_read.proofs.SoundGames.{read_sound}
use Rattle.position_pack.specs.declared.kind.PackingKind.{PackingKind}
use Rattle.position_pack.specs.Shape.{shape_of}
use Rattle.position_pack.proofs.ShapeLemmas.{fits}
use Rattle.position_pack.proofs.PackingLemmas.{as_many}
use Rattle.retrograde.specs.Graph.{Graph, IsReachable, at_start, by_move}
use Rattle.retrograde.specs.Stored.{Stored, loaded}
use Rattle.retrograde.specs.Sound.{IsLocallySound}
use Rattle.retrograde.proofs.Sound.{sound_right}
use Rattle.retrograde.proofs.FirstTable.{loaded_sound}
use Rattle.legal_moves.specs.Moves.{start_of}
use Rattle.legal_moves.specs.Sources.{IsPositionBytes, IsWideAt, graph_of}
use Rattle.legal_moves.proofs.automata.CompiledLemmas.{start_position}
use Rattle.table.specs.Fit.{FitsTogether}
use Rattle.game_table.specs.Tables.{ArePositions, packed_length}
use Rattle.game_table.specs.Work.{AreDone}
use Rattle.game_table.specs.lemmas.OneTable.{one_by_asking}
use Rattle.rbg_game.specs.declared.limits.TheConstants.{MAX_TEXT_BYTES}

-- a text that reads to a game has at most 65,536 bytes
pub texts_are_short : (text : Text) (game : Game) → Reads text game → length text ≤ MAX_TEXT_BYTES
texts_are_short text game (reads short nested parsed without means) = short

-- the start of a game that a text reads to is a position of the game
pub starts_are_positions : (text : Text) (game : Game) → Reads text game → IsPositionOf game (start_of game)
starts_are_positions text game is = start_position game (read_sound text game is)

-- the positions of a game have as many bytes as each other
pub positions_have_one_length : (kind : PackingKind) (game : Game) (x : List ℕ) → IsPositionBytes kind game x
    → length x ≡ packed_length kind game
positions_have_one_length kind game x (at, here) =
    ap length here.bytes_are ∙ as_many kind (shape_of game) at (fits game at here.position_is)

-- play comes to positions of the game alone
pub reachable_is_position : (kind : PackingKind) (goal : Option ℕ) (game : Game) (x : List ℕ) → IsPositionOf game (start_of game)
    → IsReachable (graph_of kind goal game) x
    → IsPositionBytes kind game x
reachable_is_position kind goal game x start at_start = (start_of game, record { position_is = start; bytes_are = refl })
reachable_is_position kind goal game x start (by_move before (at, next, from, to, leads)) = (next, to)

-- a table that agrees with itself at each number stores positions of the game, and its parts fit together
pub sound_tables_fit : (kind : PackingKind) (goal : Option ℕ) (game : Game) (stored : Stored (List ℕ)) → IsPositionOf game (start_of game)
    → IsLocallySound (graph_of kind goal game) (IsWideAt kind game) stored
    → ArePositions kind game stored × FitsTogether (packed_length kind game) stored
sound_tables_fit kind goal game stored start sound =
    let right = sound_right (graph_of kind goal game) (IsWideAt kind game) stored sound in
    let are : ArePositions kind game stored = λ i x number. reachable_is_position kind goal game x start (right.moves.reached x (i, number)) in
    (are, record { table = sound.table; long = λ i x number. positions_have_one_length kind game x (are i x number) })

-- the table of a game that was just loaded agrees with itself at each number
pub a_first_table_is_sound : (kind : PackingKind) (goal : Option ℕ) (game : Game)
    → IsLocallySound (graph_of kind goal game) (IsWideAt kind game) (loaded (graph_of kind goal game).start)
a_first_table_is_sound kind goal game = loaded_sound (graph_of kind goal game) (IsWideAt kind game)

-- work leads from a table to one
pub work_leads_to_one_table : (graph : Graph (List ℕ)) (IsWide : List ℕ → Type 0) (units n m : ℕ) (old a b : Stored (List ℕ))
    → AreDone graph IsWide units old n a → AreDone graph IsWide units old m b → (n ≡ m) × (a ≡ b)
work_leads_to_one_table graph IsWide units n m old a b one other = one_by_asking graph units n m old a b one.by_units one.all other.by_units other.all
