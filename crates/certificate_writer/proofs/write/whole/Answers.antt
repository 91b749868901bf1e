use Rattle.std.proofs.Common.{subst, Some, List, ℕ}
use Rattle.rbg_game.specs.Goals.{points_of}
use Rattle.certificate.specs.Right.{ShowsThis}
use Rattle.certificate_writer.proofs.WrittenLemmas.{can_stand, made}
use Rattle.certificate_writer.proofs.write.whole.Goals as goal

pub returns : goal.returns
returns c =
    let parts = c.args.parts in
    let told = parts.told in
    let shown = subst (λ (b : List ℕ). ShowsThis b (Some told.text.items) told.position.items told.claimed) c.deref.ensures.value c.in_ok-needs_shown.ensures in
    made c.in_ok-bytes.bytes.items (points_of c.args.goal) told.text.items told.position.items parts.value.items parts.lists.items told.claimed
    (can_stand c.args.goal) c.in_ok-bytes.ensures shown
