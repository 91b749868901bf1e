-- A semi-state that is seen where it lies.
use Rattle.rbg_game.specs.declared.position.SemiState.{SemiState}
use Rattle.legal_moves.specs.declared.effect.Seen.{Seen}

abbrev pub state_seen : Seen → SemiState
state_seen s = record {
  mover = s.mover;
  pieces = record { items = s.pieces.now };
  values = record { items = s.values.now };
  vertex = s.vertex;
}
