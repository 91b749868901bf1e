-- What is so of the bytes of positions as a graph is so of the positions.
use Rattle.std.specs.Prelude.{◌≡◌, ◌↔◌, ℕ, zero, suc, List, Option, Some}
use Rattle.std.proofs.Common.{refl, sym, subst, ◌∙◌, inl, inr}
use Rattle.rbg_game.specs.Games.{Game}
use Rattle.rbg_game.specs.Sound.{IsSoundGame}
use Rattle.rbg_game.specs.Positions.{IsPositionOf}
use Rattle.rbg_game.specs.declared.position.Position.{Position}
use Rattle.rbg_game.specs.declared.roles.Player.{Player}
use Rattle.rbg_game.specs.declared.roles.Player.TheVariants.{First, Second}
use Rattle.position_pack.specs.declared.kind.PackingKind.{PackingKind}
use Rattle.position_pack.specs.Shape.{shape_of}
use Rattle.position_pack.specs.Packings.{packed_by}
use Rattle.retrograde.specs.Graph.{Moves, IsEnded}
use Rattle.retrograde.specs.Values.{EndsAhead, WinsWithin, WonIn}
use Rattle.legal_moves.specs.Moves.{IsSuccessor, score}
use Rattle.legal_moves.specs.Sources.{IsAt, graph_of}
use Rattle.legal_moves.proofs.answers.FieldLemmas.{role_is, leader_is, leads}
use Rattle.legal_moves.proofs.answers.ReachLemmas.{position_of}
use Rattle.legal_moves.proofs.answers.SourceLemmas.{one_position}
use Rattle.certificate.specs.Play.{play_of}
use Rattle.certificate.specs.Claims.{IsClaimSo}
use Rattle.certificate.specs.declared.claim.Claimed.{Claimed}
use Rattle.certificate.specs.declared.claim.Claimed.TheVariants as claimed

-- a position of the game has bytes
at_bytes : (kind : PackingKind) (game : Game) (at : Position) → IsPositionOf game at → IsAt kind game (packed_by kind (shape_of game) at) at
at_bytes kind game at here = record { position_is = here; bytes_are = refl }

module _ (kind : PackingKind) (goal : Option ℕ) (game : Game) (sound : IsSoundGame game) where
  -- where it leads
  next_bytes : (x : List ℕ) (at next : Position) → IsAt kind game x at → IsSuccessor game at next
      → IsAt kind game (packed_by kind (shape_of game) next) next
  next_bytes x at next here leads_to = at_bytes kind game next (position_of game at next sound here.position_is leads_to)

  step_down : (x y : List ℕ) (at : Position) → IsAt kind game x at → (graph_of kind goal game).Successor x y
      → (next : Position) × IsAt kind game y next × IsSuccessor game at next
  step_down x y at here (before, next, from, to, leads_to) =
      (next, to, subst (λ (p : Position). IsSuccessor game p next) (one_position kind game sound x at before here from) leads_to)

  step_up : (x : List ℕ) (at next : Position) → IsAt kind game x at → IsSuccessor game at next
      → (graph_of kind goal game).Successor x (packed_by kind (shape_of game) next)
  step_up x at next here leads_to = (at, next, here, next_bytes x at next here leads_to, leads_to)

  ended_down : (x : List ℕ) (at : Position) → IsAt kind game x at → IsEnded (graph_of kind goal game) x → IsEnded (play_of goal game) at
  ended_down x at here none next leads_to = none (packed_by kind (shape_of game) next) (step_up x at next here leads_to)

  ended_up : (x : List ℕ) (at : Position) → IsAt kind game x at → IsEnded (play_of goal game) at → IsEnded (graph_of kind goal game) x
  ended_up x at here none y leads_to = let (next, to, goes) = step_down x y at here leads_to in none next goes

  ahead_same : (x : List ℕ) (at : Position) → IsAt kind game x at → (w : Player)
      → ((graph_of kind goal game).ahead x ≡ Some w) ↔ ((play_of goal game).ahead at ≡ Some w)
  ahead_same x at here w =
      let by_bytes = leader_is kind goal game sound x at here w in
      let by_scores = leads goal (score First at.state) (score Second at.state) at w refl refl in
      (λ is. by_scores.1 (by_bytes.0 is), λ is. by_bytes.1 (by_scores.0 is))

  moves_down : (x : List ℕ) (at : Position) → IsAt kind game x at → (w : Player) → Moves (graph_of kind goal game) w x → Moves (play_of goal game) w at
  moves_down x at here w is = sym (role_is kind game sound x at here) ∙ is

  moves_up : (x : List ℕ) (at : Position) → IsAt kind game x at → (w : Player) → Moves (play_of goal game) w at → Moves (graph_of kind goal game) w x
  moves_up x at here w is = role_is kind game sound x at here ∙ is

  ends_down : (x : List ℕ) (at : Position) → IsAt kind game x at → (w : Player) → EndsAhead (graph_of kind goal game) w x → EndsAhead (play_of goal game) w at
  ends_down x at here w (ended, ahead) = (ended_down x at here ended, (ahead_same x at here w).0 ahead)

  ends_up : (x : List ℕ) (at : Position) → IsAt kind game x at → (w : Player) → EndsAhead (play_of goal game) w at → EndsAhead (graph_of kind goal game) w x
  ends_up x at here w (ended, ahead) = (ended_up x at here ended, (ahead_same x at here w).1 ahead)

  -- a win of the bytes is one of the position
  pub wins_down : (w : Player) (n : ℕ) (x : List ℕ) (at : Position) → IsAt kind game x at
      → WinsWithin (graph_of kind goal game) w n x → WinsWithin (play_of goal game) w n at
  wins_down w zero x at here ends = ends_down x at here w ends
  wins_down w (suc n) x at here (inl ends) = inl (ends_down x at here w ends)
  wins_down w (suc n) x at here (inr (inl (turn, (y, leads_to, good)))) =
      let (next, to, goes) = step_down x y at here leads_to in
      inr (inl (moves_down x at here w turn, (next, goes, wins_down w n y next to good)))
  wins_down w (suc n) x at here (inr (inr (no_turn, (y, leads_to), each))) =
      let (next, to, goes) = step_down x y at here leads_to in
      inr (inr (
        λ turn. no_turn (moves_up x at here w turn),
        (next, goes),
        λ other goes_there. wins_down w n (packed_by kind (shape_of game) other) other (next_bytes x at other here goes_there)
            (each (packed_by kind (shape_of game) other) (step_up x at other here goes_there)),
      ))

  -- and back
  pub wins_up : (w : Player) (n : ℕ) (x : List ℕ) (at : Position) → IsAt kind game x at
      → WinsWithin (play_of goal game) w n at → WinsWithin (graph_of kind goal game) w n x
  wins_up w zero x at here ends = ends_up x at here w ends
  wins_up w (suc n) x at here (inl ends) = inl (ends_up x at here w ends)
  wins_up w (suc n) x at here (inr (inl (turn, (next, goes, good)))) =
      inr (inl (
        moves_up x at here w turn,
        (
          packed_by kind (shape_of game) next,
          step_up x at next here goes,
          wins_up w n (packed_by kind (shape_of game) next) next (next_bytes x at next here goes) good,
        ),
      ))
  wins_up w (suc n) x at here (inr (inr (no_turn, (next, goes), each))) =
      inr (inr (
        λ turn. no_turn (moves_down x at here w turn),
        (packed_by kind (shape_of game) next, step_up x at next here goes),
        λ y leads_to. let (other, to, goes_there) = step_down x y at here leads_to in wins_up w n y other to (each other goes_there),
      ))

  -- who wins the bytes in how many moves wins the position so
  pub won_down : (w : Player) (n : ℕ) (x : List ℕ) (at : Position) → IsAt kind game x at
      → WonIn (graph_of kind goal game) w n x → WonIn (play_of goal game) w n at
  won_down w n x at here won = record {
    within = wins_down w n x at here won.within;
    least = λ m wins. won.least m (wins_up w m x at here wins);
  }

  -- what is so of the bytes of a position is so of the position
  pub so_down : (claim : Claimed) (at : Position) → IsPositionOf game at
      → IsClaimSo (graph_of kind goal game) claim (packed_by kind (shape_of game) at) → IsClaimSo (play_of goal game) claim at
  so_down (claimed.Won w n) at here won = won_down w n (packed_by kind (shape_of game) at) at (at_bytes kind game at here) won
  so_down claimed.Drawn at here drawn = λ w n wins. drawn w n (wins_up w n (packed_by kind (shape_of game) at) at (at_bytes kind game at here) wins)
