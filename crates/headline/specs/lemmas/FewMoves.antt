-- Where few moves lead from each position and to it, few lead from its bytes and to them.
use Rattle.std.specs.Prelude.{ℕ, List, map, Option, Contains}
use Rattle.std.proofs.Common.{refl, sym, subst, ◌∙◌, ap, arith}
use Rattle.std.proofs.lemmas.List.{get_or-map, length-map}
use Rattle.rbg_game.specs.Games.{Game}
use Rattle.rbg_game.specs.Sound.{IsSoundGame}
use Rattle.rbg_game.specs.declared.position.Position.{Position}
use Rattle.position_pack.specs.declared.kind.PackingKind.{PackingKind}
use Rattle.position_pack.specs.Shape.{shape_of}
use Rattle.position_pack.specs.Packings.{packed_by}
use Rattle.retrograde.specs.Graph.{IsReachable, at_start, by_move}
use Rattle.legal_moves.specs.Moves.{IsSuccessor, start_of}
use Rattle.legal_moves.specs.Sources.{IsAt, graph_of}
use Rattle.legal_moves.proofs.automata.CompiledLemmas.{start_position}
use Rattle.legal_moves.proofs.answers.SourceLemmas.{one_position}
use Rattle.game_table.specs.Entries.{AreAtMost, HasAtMostMoves}
use Rattle.headline.specs.Tables.{play_of}
use Rattle.headline.specs.lemmas.Plays.{step_down, reached_down}

-- what is in a list is, changed so, in the list of all that are changed so
in_map : {A B : Type 0} (f : A → B) (xs : List A) (x : A) → Contains xs x → Contains (map f xs) (f x)
in_map f xs x (k, inside, is) = (k, omega (arith, inside, length-map xs f), get_or-map f xs k x (f x) inside ∙ ap f is)

module _ (kind : PackingKind) (goal : Option ℕ) (game : Game) (sound : IsSoundGame game) where
  -- bytes that can be reached are those of a position
  has_position : (x : List ℕ) → IsReachable (graph_of kind goal game) x → (at : Position) × IsAt kind game x at
  has_position x at_start = (start_of game, record { position_is = start_position game sound; bytes_are = refl })
  has_position x (by_move reached (before, next, from, to, goes)) = (next, to)

  bytes : Position → List ℕ
  bytes at = packed_by kind (shape_of game) at

  module _ (n : ℕ) (few : HasAtMostMoves (play_of goal game) n) where
    few_from : (x : List ℕ) → IsReachable (graph_of kind goal game) x → AreAtMost n (λ y. (graph_of kind goal game).Successor x y)
    unfolding bytes
    few_from x reached =
        let (at, here) = has_position x reached in
        let cover = few.from at (reached_down kind goal game sound x reached at here) in
        record {
          positions = map bytes cover.positions;
          as_many = omega (arith, cover.as_many, length-map cover.positions bytes);
          each = λ y leads.
              let (next, to, goes) = step_down kind goal game sound x y at here leads in
              subst (λ (z : List ℕ). Contains (map bytes cover.positions) z) (sym to.bytes_are) (in_map bytes cover.positions next (cover.each next goes));
        }

    few_to : (x : List ℕ) → IsReachable (graph_of kind goal game) x
        → AreAtMost n (λ y. IsReachable (graph_of kind goal game) y × (graph_of kind goal game).Successor y x)
    unfolding bytes
    few_to x reached =
        let (at, here) = has_position x reached in
        let cover = few.to at (reached_down kind goal game sound x reached at here) in
        record {
          positions = map bytes cover.positions;
          as_many = omega (arith, cover.as_many, length-map cover.positions bytes);
          each = λ y (there, leads).
              let (before, from) = has_position y there in
              let (next, to, goes) = step_down kind goal game sound y x before from leads in
              let goes_here : IsSuccessor game before at =
              subst (λ (p : Position). IsSuccessor game before p) (one_position kind game sound x at next here to) goes in
              subst (λ (z : List ℕ). Contains (map bytes cover.positions) z) (sym from.bytes_are)
              (in_map bytes cover.positions before (cover.each before (reached_down kind goal game sound y there before from, goes_here)));
        }

    pub few_down : HasAtMostMoves (graph_of kind goal game) n
    few_down = record { from = few_from; to = few_to }
