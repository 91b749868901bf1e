use Rattle.std.proofs.Common.{◌≡◌, ℕ, ◌<◌, Some, slice_get}
use Rattle.rbg_game.specs.Meaning.{game_of}
use Rattle.rbg_game.specs.declared.position.SemiState.{SemiState}
use Rattle.legal_moves.specs.Effects.{EffectAt}
use Rattle.legal_moves.specs.lemmas.Configurations.{expression_at}
use Rattle.legal_moves.specs.lemmas.VertexSearch.{at_vertex}
use Rattle.legal_moves.specs.declared.automaton.jumps.Jump.{Jump}
use Rattle.legal_moves.proofs.search.searcher.Searcher.at_once.Given as goal

abbrev pub invariant-loop-jump : goal.invariant-loop-jump
invariant-loop-jump l =
    let game = game_of l.self.game.now in
    let e = expression_at game l.index in
    (i : ℕ) (j : Jump) → i < l.jump-index → slice_get l.jump-items i ≡ Some j → (T : SemiState) → ¬ EffectAt game e 1 j.number (at_vertex l.state j.vertex) T
