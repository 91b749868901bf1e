use Rattle.std.proofs.Common.{◌≡◌, ◌∙◌, ap, None}
use Rattle.rbg_game.specs.Goals.{points_of}
use Rattle.certificate.specs.Right.{IsAcceptable}
use Rattle.certificate.proofs.ListLoops.{if_ok}
use Rattle.game_file.specs.Kept.{goal_kept}
use Rattle.solver.specs.Queries.{Tells}
use Rattle.solver.specs.Solvers.{state}
use Rattle.certificate_writer.specs.Written.{IsCertificateFrom, IsCertificateOf}
use Rattle.certificate_writer.specs.declared.write.Written.{Written}
use Rattle.certificate_writer.proofs.WrittenLemmas.{beside, from_kept}
use Rattle.certificate_writer.proofs.write.write_certificate.Goals as goal

pub returns-in-Ok-clause-accepted : goal.returns-in-Ok-clause-accepted
returns-in-Ok-clause-accepted g c =
    let told = c.in-Ok.parts.told in
    if_ok c.whole.result
    (λ (w : Written). IsCertificateOf w.bytes.items (points_of c.goal-goal.result) told.text.items told.position.items told.claimed)
    (λ (w : Written). IsAcceptable w.bytes.items None)
    (λ w of. beside w.bytes.items told.text.items None tt of.acceptable) c.whole.ensures

pub returns-in-Ok-clause-told : goal.returns-in-Ok-clause-told
returns-in-Ok-clause-told g c = λ ready.
    let told = c.in-Ok.parts.told in
    let kept = (state c.args.solver).kept in
    let goal_is : points_of c.goal-goal.result ≡ goal_kept kept =
    c.goal-goal.ensures ∙ ap (λ f. goal_kept (g.F.GameFile.state f).kept) c.into_file-file.ensures ∙ (c.parts_of-parts.ensures.keeps ready).1 in
    if_ok c.whole.result
    (λ (w : Written). IsCertificateOf w.bytes.items (points_of c.goal-goal.result) told.text.items told.position.items told.claimed)
    (λ (w : Written). Tells (IsCertificateFrom c.args.number w.bytes.items) (state c.args.solver))
    (λ w of honest. from_kept c.args.number w.bytes.items (points_of c.goal-goal.result) told.text.items told.position.items told.claimed of kept
    (c.in-Ok.ensures.told ready honest) goal_is)
    c.whole.ensures
