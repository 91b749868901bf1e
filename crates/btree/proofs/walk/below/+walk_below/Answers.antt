use Rattle.std.proofs.Common.{arith, drop}
use Rattle.btree.specs.lemmas.Items.{length-items}
use Rattle.btree.specs.Page.{Item, count_in}
use Rattle.btree.proofs.walks.Exits.{passed_on, passed_store}
use Rattle.page_store.specs.lemmas.Frames.{marks_then}
use Rattle.btree.proofs.walks.Children.{child_fails, inner_walked, leaf_fails, leaf_not_taken, leaf_walked, not_taken, over_next, over_none, wrong_first}
use Rattle.btree.proofs.walk.below.+walk_below.Goals as goal

pub returns-then-depth-eq0-clause-walked : goal.returns-then-depth-eq0-clause-walked
returns-then-depth-eq0-clause-walked g t c = λ honest.
    leaf_walked _ _ _ c.take_page.new.bytes _ _ _ _ _ _ _ c.if-depth-eq0.true
    (c.in_ok-take_page.ensures.taken.is honest) c.in_ok-take_page.ensures.taken c.first_key.ensures c.in_ok-tell_leaf.ensures.told

pub returns-in_err-tell_leaf-clause-cause : goal.returns-in_err-tell_leaf-clause-cause
returns-in_err-tell_leaf-clause-cause g t c =
    passed_on _ c.from_residual-in_err-tell_leaf.result _ c.from_residual-in_err-tell_leaf.ensures
    (leaf_fails c.args.widths c.args.depth c.args.page c.take_page.new.bytes c.args.last.now.items
    (g.V.Visitor.refuses c.tell_leaf.new.visitor) (g.V.Visitor.told c.args.visitor.now) (g.P.Pages.store c.args.store.now)
    (g.P.Pages.store c.take_page.new.store) c.if-depth-eq0.true c.in_ok-take_page.ensures.taken.is _ c.in_err-tell_leaf.ensures.cause)

pub returns-in_err-take_page-clause-cause : goal.returns-in_err-take_page-clause-cause
returns-in_err-take_page-clause-cause g t c =
    passed_store _ c.from_residual.result _ c.from_residual.ensures
    (leaf_not_taken c.args.widths c.args.depth c.args.page c.args.last.now.items (g.V.Visitor.refuses c.args.visitor.now)
    (g.V.Visitor.told c.args.visitor.now) (g.P.Pages.store c.args.store.now)
    (g.P.Pages.store c.take_page.new.store) c.if-depth-eq0.true _ c.in_err-take_page.ensures.cause)

pub returns-in_err-take_page-2-clause-cause : goal.returns-in_err-take_page-2-clause-cause
returns-in_err-take_page-2-clause-cause g t c =
    passed_store _ c.from_residual-in_err-take_page-2.result _ c.from_residual-in_err-take_page-2.ensures
    (not_taken c.args.widths c.args.depth c.args.page c.args.last.now.items (g.V.Visitor.refuses c.args.visitor.now)
    (g.V.Visitor.told c.args.visitor.now) (g.P.Pages.store c.args.store.now)
    (g.P.Pages.store c.take_page-2.new.store) c.if-depth-eq0.false _ c.in_err-take_page-2.ensures.cause)

pub loop-place-init : goal.loop-place-init
loop-place-init g t c = record {
  marks = c.take_page-2.ensures.marks;
  over = λ honest. over_none _ _ _ _ _ _ _ _ _ _ c.in_ok-take_page-2.ensures.taken;
}

pub returns-in_err-first-clause-marks : goal.returns-in_err-first-clause-marks
returns-in_err-first-clause-marks g t c = marks_then c.loop-place.invariant.marks c.walk_below.ensures.marks

pub returns-in_err-first-clause-cause : goal.returns-in_err-first-clause-cause
returns-in_err-first-clause-cause g t c =
    let item : Item = (c.item_at.result.0.now, c.item_at.result.1.now) in
    passed_on _ c.from_residual-in_err-first.result _ c.from_residual-in_err-first.ensures
    (child_fails c.args.widths c.args.depth c.args.page c.take_page-2.new.bytes c.loop-place.place c.read_u32-child.result item
    (g.P.Pages.store c.args.store.now) (g.P.Pages.store c.loop-place.store)
    (g.P.Pages.store c.walk_below.new.store) c.args.last.now.items c.loop-place.last.items (g.V.Visitor.told c.args.visitor.now)
    (g.V.Visitor.told c.loop-place.visitor) c.if-depth-eq0.false
    c.loop-place.invariant.marks c.in_ok-take_page-2.ensures.taken.is c.item_at.ensures.got c.read_u32-child.ensures c.loop-place.invariant.over _ _ c.in_err-first.ensures.cause)

pub returns-then-not-is_same-clause-marks : goal.returns-then-not-is_same-clause-marks
returns-then-not-is_same-clause-marks g t c = marks_then c.loop-place.invariant.marks c.walk_below.ensures.marks

pub returns-then-not-is_same-clause-cause : goal.returns-then-not-is_same-clause-cause
returns-then-not-is_same-clause-cause g t c =
    let item : Item = (c.item_at.result.0.now, c.item_at.result.1.now) in
    wrong_first c.args.widths c.args.depth c.args.page c.take_page-2.new.bytes c.loop-place.place c.read_u32-child.result item
    (g.P.Pages.store c.args.store.now) (g.P.Pages.store c.loop-place.store)
    (g.P.Pages.store c.walk_below.new.store) c.args.last.now.items c.loop-place.last.items (g.V.Visitor.told c.args.visitor.now)
    (g.V.Visitor.told c.loop-place.visitor) c.if-depth-eq0.false
    c.loop-place.invariant.marks c.in_ok-take_page-2.ensures.taken.is c.item_at.ensures.got c.read_u32-child.ensures c.loop-place.invariant.over _ _ _ c.in_ok-first.ensures.walked (g.V.Visitor.refuses c.walk_below.new.visitor)
    (λ same. let yes = c.is_same.ensures.1 same in let no = c.if-not-is_same.true in cc)

pub loop-place-preserved : goal.loop-place-preserved
loop-place-preserved g t c =
    let item : Item = (c.item_at.result.0.now, c.item_at.result.1.now) in
    record {
      marks = marks_then c.loop-place.invariant.marks c.walk_below.ensures.marks;
      over = over_next c.args.widths c.args.depth c.args.page c.take_page-2.new.bytes c.loop-place.place c.read_u32-child.result item
          (g.P.Pages.store c.args.store.now) (g.P.Pages.store c.loop-place.store)
          (g.P.Pages.store c.walk_below.new.store) c.args.last.now.items c.loop-place.last.items (g.V.Visitor.told c.args.visitor.now)
          (g.V.Visitor.told c.loop-place.visitor) c.if-depth-eq0.false
          c.loop-place.invariant.marks c.in_ok-take_page-2.ensures.taken.is c.item_at.ensures.got c.read_u32-child.ensures c.loop-place.invariant.over _ _ _ c.in_ok-first.ensures.walked (c.is_same.ensures.0 c.if-not-is_same.false);
    }

pub returns-clause-walked : goal.returns-clause-walked
returns-clause-walked g t c = λ honest.
    inner_walked _ _ _ c.take_page-2.new.bytes c.loop-place.place _ _ _ _ _ _ _ c.if-depth-eq0.false
    (c.in_ok-take_page-2.ensures.taken.is honest) c.in_ok-take_page-2.ensures.taken.form
    (let long = length-items c.args.widths.key 4 (count_in c.take_page-2.new.bytes) (drop 4 c.take_page-2.new.bytes) in
    omega (arith, long, c.loop-place-test.false, c.count_of-place-end.ensures))
    c.first_key-2.ensures (c.loop-place.invariant.over honest)

pub returns-then-depth-eq0-clause-marks : goal.returns-then-depth-eq0-clause-marks
returns-then-depth-eq0-clause-marks g t c = c.take_page.ensures.marks

pub returns-in_err-take_page-clause-marks : goal.returns-in_err-take_page-clause-marks
returns-in_err-take_page-clause-marks g t c = c.take_page.ensures.marks

pub returns-in_err-tell_leaf-clause-marks : goal.returns-in_err-tell_leaf-clause-marks
returns-in_err-tell_leaf-clause-marks g t c = c.take_page.ensures.marks

pub returns-in_err-take_page-2-clause-marks : goal.returns-in_err-take_page-2-clause-marks
returns-in_err-take_page-2-clause-marks g t c = c.take_page-2.ensures.marks

pub returns-clause-marks : goal.returns-clause-marks
returns-clause-marks g t c = c.loop-place.invariant.marks
