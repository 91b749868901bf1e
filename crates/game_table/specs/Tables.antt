-- When a table is one of a game, and what units of work on it come to.
use Rattle.std.specs.Prelude.{◌≡◌, ℕ, List, slice_get, Option, Some}
use Rattle.rbg_game.specs.Games.{Game}
use Rattle.position_pack.specs.declared.kind.PackingKind.{PackingKind}
use Rattle.position_pack.specs.Shape.{shape_of}
use Rattle.position_pack.specs.Packings.{length_by}
use Rattle.legal_moves.specs.Sources.{IsPositionBytes, IsWideAt, graph_of}
use Rattle.retrograde.specs.Stored.{Stored}
use Rattle.game_table.specs.Work.{AreDone}

-- each stored position is the bytes of a position of the game, by the packing of this kind
abbrev pub ArePositions : PackingKind → Game → Stored (List ℕ) → Type 0
ArePositions kind game stored = (i : ℕ) (x : List ℕ) → slice_get stored.positions i ≡ Some x → IsPositionBytes kind game x

-- how many bytes a position of the game has
abbrev pub packed_length : PackingKind → Game → ℕ
packed_length kind game = length_by kind (shape_of game)

-- of the units asked of the old table these were done: all, or as many as were left to do; and the new table agrees with itself
abbrev pub IsWorkOf : PackingKind → Option ℕ → Game → ℕ → Stored (List ℕ) → ℕ → Stored (List ℕ) → Type 0
IsWorkOf kind goal game units old done new = AreDone (graph_of kind goal game) (IsWideAt kind game) units old done new
