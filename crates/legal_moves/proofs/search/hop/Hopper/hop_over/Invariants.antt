use Rattle.std.proofs.Common.{◌≡◌, ◌<◌, ℕ, Some, slice_get}
use Rattle.rbg_game.specs.Meaning.{game_of}
use Rattle.legal_moves.specs.lemmas.Answers.{IsAnswerAt}
use Rattle.legal_moves.specs.lemmas.Configurations.{expression_at}
use Rattle.legal_moves.specs.lemmas.Hops.{IsGoneOver, IsHopping, AreStillThere}
use Rattle.legal_moves.specs.lemmas.Progress.{began, state_at}
use Rattle.legal_moves.specs.lemmas.Stands.{configurations_of, AreKept, ShowsOne}
use Rattle.legal_moves.specs.lemmas.VertexSearch.{at_vertex}
use Rattle.legal_moves.specs.declared.automaton.jumps.Jump.{Jump}
use Rattle.legal_moves.proofs.search.hop.Hopper.hop_over.Given as goal

abbrev pub invariant-loop-jump : goal.invariant-loop-jump
invariant-loop-jump l =
    let game = game_of l.self.searcher.game.now in
    let e = expression_at game l.index in
    let first = configurations_of l.initial.found in
    let cs = configurations_of l.found in
    record {
      kept : AreKept l.found;
      shown : ShowsOne l.found l.here;
      still : AreStillThere first cs;
      hopping : IsHopping game e l.place (began first) cs l.at;
      known : IsAnswerAt game (at_vertex (state_at first l.at) l.asked) l.known;
      over : (i : ℕ) (j : Jump) → i < l.jump-index → slice_get l.jump-items i ≡ Some j → IsGoneOver game e cs (at_vertex (state_at first l.at) j.vertex) j.number;
    }
