-- Moves that were found, and what the table tells of them.
use Rattle.std.specs.Prelude.{◌≡◌, ℕ, List, length, Some, IfSome, slice_get}
use Rattle.rbg_game.specs.Games.{Game}
use Rattle.rbg_game.specs.declared.position.Position.{Position}
use Rattle.position_pack.specs.declared.kind.PackingKind.{PackingKind}
use Rattle.position_pack.specs.declared.kind.PackingKind.TheVariants.{Bytes}
use Rattle.position_pack.specs.Texts.{text_of}
use Rattle.retrograde.specs.View.{View}
use Rattle.legal_moves.specs.Listed.{ShownMove}
use Rattle.legal_moves.specs.Sources.{IsAt}
use Rattle.best_line.specs.Moves.{IsKnownAs, modifiers_of}
use Rattle.best_line.specs.declared.known.KnownMove.{KnownMove}

-- the bytes are those of a position of the game
abbrev pub LeadsToPosition : Game → ShownMove → Type 0
LeadsToPosition game move = (next : Position) × IsAt Bytes game move.next next

module _ (kind : PackingKind) (game : Game) (view : View (List ℕ)) where
  -- the move is the one that was found, with what the table tells of the position that it leads to
  pub record IsToldMove (found : ShownMove) (move : KnownMove) : Type 0 where
    pub next : Position
    pub found_is : IsAt Bytes game found.next next
    pub packed_is : IsAt kind game move.packed.items next
    pub text_is : move.text.items ≡ text_of game next
    pub shown_is : found.shown ≡ modifiers_of move
    pub told : IsKnownAs view move.packed.items move.number move.value

  -- as many as were found, each in its place
  pub record AreToldMoves (found : List ShownMove) (moves : List KnownMove) : Type 0 where
    pub as_many : length moves ≡ length found
    pub each : (k : ℕ) (move : KnownMove) → slice_get moves k ≡ Some move → IfSome (slice_get found k) (λ m. IsToldMove m move)
