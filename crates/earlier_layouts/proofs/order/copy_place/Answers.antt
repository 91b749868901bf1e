use Rattle.std.proofs.Common.{◌≡◌, ◌∙◌, ap, ℕ, List, Some, slice_get}
use Rattle.retrograde.specs.Stored.{Stored}
use Rattle.retrograde.specs.Changes.{with_settled}
use Rattle.earlier_layouts.proofs.CopyExits.{told, told_done}
use Rattle.earlier_layouts.proofs.Lists.{place_more}
use Rattle.earlier_layouts.proofs.order.copy_place.Goals as goal

pub returns-clause-copied : goal.returns-clause-copied
returns-clause-copied g c = λ honest.
    let at : slice_get (g.A.Table.stored c.args.from.now).order c.args.place ≡ Some c.in_ok-number.number
    = told _ _ c.settled_at.result c.map_err.result _ c.map_err.ensures.cases c.map_err.ensures.variant c.in_ok-number.was
    (c.settled_at.ensures.number (c.requires.honest honest)) in
    let pushed = told_done c.push_settled.result c.map_err-2.result _ c.map_err-2.ensures.variant c.in_ok-map_err.was
    (c.push_settled.ensures.pushed honest) in
    pushed
    ∙ (ap (λ (t : Stored (List ℕ)). with_settled t c.in_ok-number.number) (c.requires.before honest)
    ∙ place_more (g.A.Table.stored c.args.from.now) c.args.place _ at)
