use Rattle.page_store.specs.lemmas.Frames.{marks_none, marks_read, marks_then}
use Rattle.btree.proofs.walks.Exits.{passed_on, passed_store}
use Rattle.btree.proofs.walks.Roots.{below_fails, map_walked, no_depth, none_walked}
use Rattle.btree.proofs.walk.map.walk.Goals as goal

pub returns-then-root-eq0-clause-map : goal.returns-then-root-eq0-clause-map
returns-then-root-eq0-clause-map g c = λ honest.
    none_walked c.args.widths c.args.root (g.P.Pages.store c.args.store.now) (g.V.Visitor.told c.args.visitor.now) c.if-root-eq0.true

pub returns-in_err-depth-clause-cause : goal.returns-in_err-depth-clause-cause
returns-in_err-depth-clause-cause g c =
    passed_store _ c.from_residual.result _ c.from_residual.ensures
    (no_depth c.args.widths c.args.root (g.V.Visitor.refuses c.args.visitor.now) (g.V.Visitor.told c.args.visitor.now) (g.P.Pages.store c.args.store.now)
    (g.P.Pages.store c.depth_of.new.store) c.in_err-depth.field-0.0 c.in_err-depth.ensures.cause)

pub returns-in_err-_first-clause-cause : goal.returns-in_err-_first-clause-cause
returns-in_err-_first-clause-cause g c =
    passed_on _ c.from_residual-in_err-_first.result _ c.from_residual-in_err-_first.ensures
    (below_fails c.args.widths c.args.root c.in_ok-depth.depth (g.P.Pages.store c.args.store.now) (g.P.Pages.store c.depth_of.new.store)
    (g.P.Pages.store c.walk_below.new.store) c.if-root-eq0.false c.in_ok-depth.ensures.read.unchanged c.in_ok-depth.ensures.read.works
    c.in_ok-depth.ensures.depth (g.V.Visitor.refuses c.walk_below.new.visitor) (g.V.Visitor.told c.args.visitor.now) c.new-last.result.items
    c.new-last.ensures c.in_err-_first.field-0.0 c.in_err-_first.ensures.cause)

pub returns-clause-map : goal.returns-clause-map
returns-clause-map g c = λ honest.
    map_walked c.args.widths c.args.root c.in_ok-depth.depth (g.P.Pages.store c.args.store.now) (g.P.Pages.store c.depth_of.new.store)
    (g.P.Pages.store c.walk_below.new.store) c.if-root-eq0.false c.in_ok-depth.ensures.read.unchanged c.in_ok-depth.ensures.read.works
    c.in_ok-depth.ensures.depth c.in_ok-_first._first.items c.new-last.result.items c.walk_below.new.last.items
    (g.V.Visitor.told c.args.visitor.now) (g.V.Visitor.told c.walk_below.new.visitor) c.in_ok-depth.ensures.shallow honest c.in_ok-_first.ensures.walked

pub returns-then-root-eq0-clause-only : goal.returns-then-root-eq0-clause-only
returns-then-root-eq0-clause-only g c = marks_none _

pub returns-in_err-depth-clause-only : goal.returns-in_err-depth-clause-only
returns-in_err-depth-clause-only g c = marks_read c.in_err-depth.ensures.read.works c.in_err-depth.ensures.read.unchanged

pub returns-in_err-_first-clause-only : goal.returns-in_err-_first-clause-only
returns-in_err-_first-clause-only g c = marks_then (marks_read c.in_ok-depth.ensures.read.works c.in_ok-depth.ensures.read.unchanged) c.walk_below.ensures.marks

pub returns-clause-only : goal.returns-clause-only
returns-clause-only g c = marks_then (marks_read c.in_ok-depth.ensures.read.works c.in_ok-depth.ensures.read.unchanged) c.walk_below.ensures.marks
