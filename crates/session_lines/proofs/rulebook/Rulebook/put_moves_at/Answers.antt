use Rattle.std.proofs.Common.{subst, ap, ◌∙◌}
use Rattle.rbg_game.specs.Meaning.{game_of}
use Rattle.rbg_game.specs.Positions.{IsPositionOf}
use Rattle.legal_moves.specs.Compiled.{compiled_game}
use Rattle.session_lines.proofs.Asked.{spelled_of, unspelled_of}
use Rattle.session_lines.proofs.rulebook.Rulebook.put_moves_at.Goals as goal

pub put_moves-requires : goal.put_moves-requires
put_moves-requires g c = subst (λ it. IsPositionOf it c.in-Some.at) (c.game.ensures ∙ ap (λ s. compiled_game s) c.self.view_is) c.in-Some.ensures.position

pub returns-in-Some : goal.returns-in-Some
returns-in-Some g c =
    spelled_of (compiled_game c.args.self.now) (game_of c.game.result.now) c.args.position.now c.in-Some.at c.put_moves.result _ _
    (c.game.ensures ∙ ap (λ s. compiled_game s) c.self.view_is) c.in-Some.ensures c.put_moves.ensures

pub returns-in-None : goal.returns-in-None
returns-in-None g c =
    unspelled_of (compiled_game c.args.self.now) (game_of c.game.result.now) c.args.position.now c.write_refused.result _ _
    (c.game.ensures ∙ ap (λ s. compiled_game s) c.self.view_is) c.in-None.ensures c.write_refused.ensures
