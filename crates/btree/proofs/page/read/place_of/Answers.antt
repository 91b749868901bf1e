use Rattle.std.proofs.Common.{◌∙◌, ap, drop, arith, subst, ℕ, sym}
use Rattle.std.proofs.lemmas.Option.{slice_get_within}
use Rattle.std.specs.Ordering.{is_gt}
use Rattle.btree.specs.lemmas.Items.{length-items}
use Rattle.btree.specs.Page.{count_in, behind_of, items_in}
use Rattle.btree.proofs.pages.KeyPlaces.{IsNarrowed, none_narrowed, go_right, go_left, go_found, is_place}
use Rattle.btree.proofs.page.read.place_of.Goals as goal

pub loop-low-init : goal.loop-low-init
loop-low-init c =
    let w = c.args.widths in
    let items = items_in w c.args.kind c.args.bytes.now in
    subst (λ (n : ℕ). IsNarrowed items (count_in c.args.bytes.now) c.args.key.now 0 n) (sym c.count_of-high.ensures)
    (none_narrowed items (count_in c.args.bytes.now) c.args.key.now
    (λ k e got. let long = length-items w.key (behind_of w c.args.kind) (count_in c.args.bytes.now) (drop 4 c.args.bytes.now) in
    let less = slice_get_within items k e got in
    omega (arith, long, less)))

pub item_at-requires-clause-within : goal.item_at-requires-clause-within
item_at-requires-clause-within c = omega (arith, c.loop-low.invariant.within, c.between-middle.ensures.to)

pub loop-low-preserved-in-Greater : goal.loop-low-preserved-in-Greater
loop-low-preserved-in-Greater c =
    go_left _ _ _ _ _ _ c.loop-low.invariant c.between-middle.ensures.from c.between-middle.ensures.to
    (c.item_at.result.0.now, c.item_at.result.1.now) c.item_at.ensures.got
    (sym c.order_of.ensures ∙ c.in-Greater.is)

pub loop-low-preserved : goal.loop-low-preserved
loop-low-preserved c =
    go_right _ _ _ _ _ _ c.loop-low.invariant c.between-middle.ensures.from c.between-middle.ensures.to
    (c.item_at.result.0.now, c.item_at.result.1.now) c.item_at.ensures.got
    (ap is_gt (sym c.order_of.ensures ∙ c.in-Less.is))

pub returns-in-Equal-clause-place : goal.returns-in-Equal-clause-place
returns-in-Equal-clause-place c =
    is_place _ _ _ _ _ (go_found _ _ _ _ _ _ c.loop-low.invariant c.between-middle.ensures.from c.between-middle.ensures.to
    (c.item_at.result.0.now, c.item_at.result.1.now) c.item_at.ensures.got
    (sym c.order_of.ensures ∙ c.in-Equal.is)) (omega arith)

pub returns-in-Equal-clause-within : goal.returns-in-Equal-clause-within
returns-in-Equal-clause-within c = omega (arith, c.loop-low.invariant.within, c.between-middle.ensures.to)

pub returns-clause-within : goal.returns-clause-within
returns-clause-within c = omega (arith, c.loop-low.invariant.within, c.loop-low.invariant.ordered)

pub returns-clause-place : goal.returns-clause-place
returns-clause-place c = is_place _ _ _ _ _ c.loop-low.invariant c.loop-low-test.false
