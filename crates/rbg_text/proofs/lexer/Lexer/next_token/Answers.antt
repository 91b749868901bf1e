use Rattle.std.proofs.Common.{◌≡◌, [], refl, ◌∙◌, ap, arith}
use Rattle.std.proofs.lemmas.Grind.{common_steps}
use Rattle.rbg_text.specs.Lex.{skip}
use Rattle.rbg_text.proofs.Splits.{lex_end, step_some, step_shorter, step_stray, step_takes, step_gap, stray_here}
use Rattle.rbg_text.proofs.lexer.Lexer.next_token.Goals as goal

pub returns-then-is_empty-clause-none : goal.returns-then-is_empty-clause-none
returns-then-is_empty-clause-none c =
    let here = c.skip-text.ensures.rest ∙ ap skip c.self.view_is in
    let e : skip c.args.self.now ≡ [] = grind (arith, common_steps) in
    λ _. lex_end c.args.self.now e

pub returns-in-Some-clause-some : goal.returns-in-Some-clause-some
returns-in-Some-clause-some c = step_some _ c.skip-text.result.now _ _ (c.skip-text.ensures.rest ∙ ap skip c.self.view_is) c.in-Some.ensures

pub returns-in-Some-clause-shorter : goal.returns-in-Some-clause-shorter
returns-in-Some-clause-shorter c = step_shorter _ c.skip-text.result.now _ _ (c.skip-text.ensures.rest ∙ ap skip c.self.view_is) c.in-Some.ensures

pub returns-in-None-clause-stray : goal.returns-in-None-clause-stray
returns-in-None-clause-stray c =
    (refl, step_stray _ c.skip-text.result.now (c.skip-text.ensures.rest ∙ ap skip c.self.view_is) (λ e. grind (arith, common_steps)) c.in-None.ensures)

pub returns-in-Some-clause-token : goal.returns-in-Some-clause-token
returns-in-Some-clause-token c = step_takes _ c.skip-text.result.now _ _ (c.skip-text.ensures.rest ∙ ap skip c.self.view_is) c.in-Some.ensures

pub returns-then-is_empty-clause-end : goal.returns-then-is_empty-clause-end
returns-then-is_empty-clause-end c =
    let empty : c.skip-text.result.now ≡ [] = grind (arith, common_steps) in
    λ _. (step_gap _ c.skip-text.result.now (c.skip-text.ensures.rest ∙ ap skip c.self.view_is), empty)

pub returns-in-None-clause-stuck : goal.returns-in-None-clause-stuck
returns-in-None-clause-stuck c = (
  step_gap _ c.skip-text.result.now (c.skip-text.ensures.rest ∙ ap skip c.self.view_is),
  stray_here c.skip-text.result.now (λ e. grind (arith, common_steps)) c.in-None.ensures,
)
