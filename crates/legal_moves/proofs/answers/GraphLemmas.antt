-- The graph of the bytes of a game's positions is the game.
use Rattle.std.proofs.Common.{List, ℕ, Option, refl, subst}
use Rattle.rbg_game.specs.Games.{Game}
use Rattle.rbg_game.specs.Sound.{IsSoundGame}
use Rattle.rbg_game.specs.Positions.{IsPositionOf}
use Rattle.rbg_game.specs.declared.position.Position.{Position}
use Rattle.position_pack.specs.declared.kind.PackingKind.{PackingKind}
use Rattle.position_pack.specs.Shape.{shape_of}
use Rattle.position_pack.specs.Packings.{packed_by}
use Rattle.retrograde.specs.Graph.{IsEnded, IsReachable}
use Rattle.legal_moves.specs.Moves.{IsSuccessor, HasNoMove, Reach, start_of}
use Rattle.legal_moves.specs.Sources.{IsAt, graph_of}
use Rattle.legal_moves.proofs.automata.CompiledLemmas.{start_position}
use Rattle.legal_moves.proofs.answers.ReachLemmas.{position_of}
use Rattle.legal_moves.proofs.answers.SourceLemmas.{one_position}

at_bytes : (kind : PackingKind) (game : Game) (at : Position) → IsPositionOf game at → IsAt kind game (packed_by kind (shape_of game) at) at
at_bytes kind game at here = record { position_is = here; bytes_are = refl }

module _ (kind : PackingKind) (goal : Option ℕ) (game : Game) (sound : IsSoundGame game) where
  pub ended_by_bytes : (x : List ℕ) (at : Position) → IsAt kind game x at → HasNoMove game at → IsEnded (graph_of kind goal game) x
  ended_by_bytes x at here none y (other, next, from, to, leads) =
      none next (subst (λ p. IsSuccessor game p next) (one_position kind game sound x at other here from) leads)

  pub ended_by_moves : (x : List ℕ) (at : Position) → IsAt kind game x at → IsEnded (graph_of kind goal game) x → HasNoMove game at
  ended_by_moves x at here none next leads =
      none (packed_by kind (shape_of game) next) (at, next, here, at_bytes kind game next (position_of game at next sound here.position_is leads), leads)

  comes_to : (at : Position) → Reach game at → IsPositionOf game at × IsReachable (graph_of kind goal game) (packed_by kind (shape_of game) at)
  comes_to at Reach.begun = (start_position game sound, IsReachable.at_start)
  comes_to at (Reach.moved before next reached leads) =
      let from = comes_to before reached in
      let position_is = position_of game before next sound from.0 leads in
      (position_is, IsReachable.by_move from.1 (before, next, at_bytes kind game before from.0, at_bytes kind game next position_is, leads))

  pub plays_reach : (at : Position) → Reach game at → (x : List ℕ) × IsAt kind game x at × IsReachable (graph_of kind goal game) x
  plays_reach at reached = let it = comes_to at reached in (packed_by kind (shape_of game) at, at_bytes kind game at it.0, it.1)

  pub reached_by_plays : (x : List ℕ) → IsReachable (graph_of kind goal game) x → (at : Position) → IsAt kind game x at → Reach game at
  reached_by_plays x IsReachable.at_start at here =
      subst (Reach game) (one_position kind game sound x at (start_of game) here (at_bytes kind game (start_of game) (start_position game sound))) Reach.begun
  reached_by_plays x (IsReachable.by_move reached (before, next, from, to, leads)) at here =
      subst (Reach game) (one_position kind game sound x at next here to) (Reach.moved before next (reached_by_plays _ reached before from) leads)
