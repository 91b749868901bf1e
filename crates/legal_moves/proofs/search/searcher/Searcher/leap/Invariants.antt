use Rattle.std.proofs.Common.{◌+◌, ◌-◌}
use Rattle.rbg_game.specs.Rules.{count}
use Rattle.rbg_game.specs.Meaning.{game_of}
use Rattle.legal_moves.specs.lemmas.Configurations.{expression_at}
use Rattle.legal_moves.specs.lemmas.Leaps.{IsLeaping}
use Rattle.legal_moves.specs.lemmas.VertexSearch.{at_vertex, AreMarked}
use Rattle.legal_moves.proofs.search.searcher.Searcher.leap.Given as goal

abbrev pub invariant-loop-at : goal.invariant-loop-at
invariant-loop-at l = record {
  marked : AreMarked (count (expression_at (game_of l.self.game.now) l.index) + 1) l.looks;
  leaping : IsLeaping (game_of l.self.game.now) (expression_at (game_of l.self.game.now) l.index) (at_vertex l.state l.vertex) l.looks.looks.items l.at;
}

abbrev pub decreases-loop-at : goal.decreases-loop-at
decreases-loop-at l = 65536 - l.at
