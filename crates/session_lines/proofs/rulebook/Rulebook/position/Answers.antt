use Rattle.std.proofs.Common.{◌∙◌, ap, subst}
use Rattle.std.specs.Prelude.{MatchOption}
use Rattle.rbg_game.specs.declared.position.Position.{Position}
use Rattle.position_pack.specs.Spelled.{IsSpelled}
use Rattle.legal_moves.specs.Compiled.{compiled_game}
use Rattle.session_lines.proofs.rulebook.Rulebook.position.Goals as goal

pub returns : goal.returns
returns g =
    let text = g.args.text.now in
    subst (λ it. MatchOption g.read_position.result ((at : Position) → ¬ IsSpelled it at text) (λ at. IsSpelled it at text))
    (g.game.ensures ∙ ap compiled_game g.self.view_is) g.read_position.ensures
