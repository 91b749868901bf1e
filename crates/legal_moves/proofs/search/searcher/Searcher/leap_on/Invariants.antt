use Rattle.std.proofs.Common.{◌≡◌, ◌+◌, ◌<◌, ℕ, Some, slice_get}
use Rattle.rbg_game.specs.Rules.{count}
use Rattle.rbg_game.specs.Meaning.{game_of}
use Rattle.legal_moves.specs.lemmas.Configurations.{expression_at}
use Rattle.legal_moves.specs.lemmas.Leaps.{opened, AreStill, IsJumped, IsLeaping}
use Rattle.legal_moves.specs.lemmas.VertexSearch.{at_vertex, AreMarked}
use Rattle.legal_moves.specs.declared.automaton.jumps.Jump.{Jump}
use Rattle.legal_moves.proofs.search.searcher.Searcher.leap_on.Given as goal

abbrev pub invariant-loop-jump : goal.invariant-loop-jump
invariant-loop-jump l =
    let game = game_of l.self.game.now in
    let e = expression_at game l.index in
    let S = at_vertex l.state (opened l.initial.looks.looks.items) in
    record {
      marked : AreMarked (count e + 1) l.looks;
      leaping : IsLeaping game e S l.looks.looks.items l.at;
      still : AreStill l.initial.looks.looks.items l.looks.looks.items;
      tried : (i : ℕ) (j : Jump) → i < l.jump-index → slice_get l.jump-items i ≡ Some j → IsJumped game e S l.looks.looks.items j.number j.vertex;
    }
