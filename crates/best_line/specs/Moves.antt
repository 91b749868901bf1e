-- The moves of a known position, and what the table tells of where they lead.
use Rattle.std.specs.Prelude.{◌≡◌, ℕ, List, All, map, Option, None, Some}
use Rattle.rbg_game.specs.Games.{Game}
use Rattle.rbg_game.specs.declared.position.Position.{Position}
use Rattle.position_pack.specs.declared.kind.PackingKind.{PackingKind}
use Rattle.position_pack.specs.Texts.{text_of}
use Rattle.retrograde.specs.View.{View, HasNumber}
use Rattle.legal_moves.specs.Listed.{ListsExactly}
use Rattle.legal_moves.specs.Moves.{IsMove, IsShortest, ShowsFrom}
use Rattle.legal_moves.specs.Sources.{IsAt, IsMoveBetween}
use Rattle.best_line.specs.Values.{IsValue}
use Rattle.best_line.specs.declared.answers.Value.{Value}
use Rattle.best_line.specs.declared.answers.Value.TheVariants.{Open}
use Rattle.best_line.specs.declared.known.KnownMove.{KnownMove}
use Rattle.best_line.specs.declared.known.KnownMoves.{KnownMoves}

-- the position with these bytes has this number and this value, or it is not known and its value open
abbrev pub IsKnownAs : View (List ℕ) → List ℕ → Option ℕ → Value → Type 0
IsKnownAs view bytes None value = ((number : ℕ) → ¬ HasNumber view number bytes) × (value ≡ Open)
IsKnownAs view bytes (Some number) value = HasNumber view number bytes × IsValue view number value

-- the modifiers of the move's word, each with the vertex that is current when it acts
abbrev pub modifiers_of : KnownMove → List (ℕ × ℕ)
modifiers_of move = map (λ m. (m.number, m.vertex)) move.word.items

module _ (kind : PackingKind) (game : Game) (view : View (List ℕ)) where
  -- a shortest word leads from the position to the next, whose bytes and text these are, and this is what the table tells of it
  pub record IsKnownMove (at : Position) (move : KnownMove) : Type 0 where
    pub next : Position
    pub next_is : IsAt kind game move.packed.items next
    pub text_is : move.text.items ≡ text_of game next
    pub word : List ℕ
    pub leads : IsMove game at word next
    pub shortest : IsShortest game at word next
    pub shows : ShowsFrom game word at.state next.state (modifiers_of move)
    pub told : IsKnownAs view move.packed.items move.number move.value

  -- all moves of the position with this number: each successor once, by ascending bytes, and who has the turn
  pub record AreKnownMoves (number : ℕ) (known : KnownMoves) : Type 0 where
    pub bytes : List ℕ
    pub number_is : HasNumber view number bytes
    pub at : Position
    pub at_is : IsAt kind game bytes at
    pub mover_is : known.mover ≡ at.state.mover
    pub successors : ListsExactly (IsMoveBetween kind game bytes) (map (λ move. move.packed.items) known.moves.items)
    pub each : All (IsKnownMove at) known.moves.items
