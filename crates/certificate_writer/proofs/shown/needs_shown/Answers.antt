use Rattle.std.proofs.Common.{subst, Some, List, ℕ}
use Rattle.certificate.specs.Right.{ShowsThis}
use Rattle.certificate.specs.declared.claim.Claimed.{Claimed}
use Rattle.certificate_writer.proofs.shown.needs_shown.Goals as goal

pub returns-in-Ok : goal.returns-in-Ok
returns-in-Ok c =
    let bytes = c.args.bytes.now in
    let told = c.args.told.now in
    let shown = c.in-Ok.shown in
    let of_text = subst (λ (t : List ℕ). ShowsThis bytes (Some t) shown.position.now shown.claimed) c.deref.ensures.value c.in-Ok.ensures.shows in
    let of_position = subst (λ (p : List ℕ). ShowsThis bytes (Some told.text.items) p shown.claimed) (c.is_this.ensures.position c.if-is_this.true) of_text in
    subst (λ (k : Claimed). ShowsThis bytes (Some told.text.items) told.position.items k) (c.is_this.ensures.claimed c.if-is_this.true) of_position
