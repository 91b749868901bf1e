use Rattle.std.proofs.Common.{Bor, List, ℕ}
use Rattle.std.specs.Prelude.{option_map}
use Rattle.std.specs.Io.KnownBytes.{Appends}
use Rattle.certificate.proofs.ClaimLemmas.{answers_shown, answers_refused}
use Rattle.certificate.proofs.answer.check_to.Goals as goal

pub returns-in-Ok : goal.returns-in-Ok
returns-in-Ok g c =
    let shown = c.in-Ok.shown in
    answers_shown c.args.certificate.now (option_map (λ (b : Bor (List ℕ)). b.now) c.args.text)
    (Appends (g.W.Write.contents c.args.out.now) (g.W.Write.contents c.said_shown.new.out)) c.said_shown.result shown.value.now
    shown.position.now shown.looked c.in-Ok.ensures.shown c.said_shown.ensures

pub returns-in-Err : goal.returns-in-Err
returns-in-Err g c =
    answers_refused c.args.certificate.now (option_map (λ (b : Bor (List ℕ)). b.now) c.args.text)
    (Appends (g.W.Write.contents c.args.out.now) (g.W.Write.contents c.said_refused.new.out)) c.said_refused.result c.in-Err.refusal.fault
    c.in-Err.ensures.refused c.said_refused.ensures
