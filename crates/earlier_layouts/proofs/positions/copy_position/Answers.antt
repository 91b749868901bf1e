use Rattle.std.proofs.Common.{◌≡◌, ◌∙◌, ap, subst, ℕ, List, Some, slice_get}
use Rattle.retrograde.specs.Stored.{Stored, HasRecord}
use Rattle.retrograde.specs.Changes.{with_position, with_record}
use Rattle.earlier_layouts.proofs.CopyExits.{told, told_done}
use Rattle.earlier_layouts.proofs.Lists.{is_new, position_more}
use Rattle.earlier_layouts.proofs.positions.copy_position.Goals as goal

pub add-requires-clause-unknown : goal.add-requires-clause-unknown
add-requires-clause-unknown g c = λ honest i there.
    let from_honest = c.requires.honest honest in
    let at : slice_get (g.A.Table.stored c.args.from.now).positions c.args.number ≡ Some c.in_ok-position.position.items
    = told _ _ c.packed.result c.map_err.result _ c.map_err.ensures.cases c.map_err.ensures.variant c.in_ok-position.was
    (c.packed.ensures.position from_honest) in
    is_new (g.A.Table.stored c.args.from.now) c.args.number _ at (c.requires.table from_honest) i
    (subst (λ (t : Stored (List ℕ)). slice_get t.positions i ≡ Some c.in_ok-position.position.items) (c.requires.before honest) there)

pub returns-clause-copied : goal.returns-clause-copied
returns-clause-copied g c = λ honest.
    let from_honest = c.requires.honest honest in
    let at : slice_get (g.A.Table.stored c.args.from.now).positions c.args.number ≡ Some c.in_ok-position.position.items
    = told _ _ c.packed.result c.map_err.result _ c.map_err.ensures.cases c.map_err.ensures.variant c.in_ok-position.was
    (c.packed.ensures.position from_honest) in
    let kept : HasRecord (g.A.Table.stored c.packed.new.self) c.args.number c.in_ok-kept.kept
    = told _ _ c.record.result c.map_err-2.result _ c.map_err-2.ensures.cases c.map_err-2.ensures.variant c.in_ok-kept.was
    (c.record.ensures.record (c.packed.ensures.read.honest.0 from_honest)) in
    let has : HasRecord (g.A.Table.stored c.args.from.now) c.args.number c.in_ok-kept.kept
    = subst (λ (t : Stored (List ℕ)). HasRecord t c.args.number c.in_ok-kept.kept) (c.packed.ensures.read.same from_honest) kept in
    let added = told_done c.add.result c.map_err-3.result _ c.map_err-3.ensures.variant c.in_ok-map_err.was (c.add.ensures.added honest) in
    let added_honest = told_done c.add.result c.map_err-3.result _ c.map_err-3.ensures.variant c.in_ok-map_err.was c.add.ensures.honest in
    let written = told_done c.set_record.result c.map_err-4.result _ c.map_err-4.ensures.variant c.in_ok-map_err-2.was
    (c.set_record.ensures.set (added_honest.0 honest)) in
    written
    ∙ (ap (λ (t : Stored (List ℕ)). with_record t c.args.number c.in_ok-kept.kept)
    (added ∙ ap (λ (t : Stored (List ℕ)). with_position t c.in_ok-position.position.items) (c.requires.before honest))
    ∙ position_more (g.A.Table.stored c.args.from.now) c.args.number _ at c.in_ok-kept.kept has)
