use Rattle.std.proofs.Common.{subst}
use Rattle.page_store.specs.lemmas.Frames.{read_then}
use Rattle.btree.specs.declared.page.kind.Kind.{Kind}
use Rattle.btree.specs.Page.{IsPage}
use Rattle.btree.proofs.walks.Depth.{at_inner, at_leaf, at_root, descent_fails, no_kind}
use Rattle.btree.proofs.walks.Exits.{passed_on}
use Rattle.btree.proofs.walk.depth.depth_of.Goals as goal

pub loop-depth-init : goal.loop-depth-init
loop-depth-init g c = at_root c.args.widths (g.P.Pages.store c.args.store.now) c.args.root

pub returns-in_err-read_page-clause-cause : goal.returns-in_err-read_page-clause-cause
returns-in_err-read_page-clause-cause g c =
    passed_on _ c.from_residual.result _ c.from_residual.ensures
    (descent_fails _ _ _ (g.P.Pages.store c.read_page.new.self) _ _ _ c.requires c.loop-depth.invariant _ c.in_err-read_page.ensures.cause)

pub returns-in-None-clause-cause : goal.returns-in-None-clause-cause
returns-in-None-clause-cause g c =
    no_kind _ _ _ (g.P.Pages.store c.read_page.new.self) _ _ _ c.requires c.loop-depth.invariant c.in_ok-read_page.ensures.unchanged c.in_ok-read_page.ensures.works c.read_page.new.into c.in_ok-read_page.ensures.bytes c.in-None.ensures.none

pub returns-in-Some-Leaf-clause-depth : goal.returns-in-Some-Leaf-clause-depth
returns-in-Some-Leaf-clause-depth g c =
    at_leaf _ _ _ (g.P.Pages.store c.read_page.new.self) _ _ _ c.requires c.loop-depth.invariant c.in_ok-read_page.ensures.unchanged c.in_ok-read_page.ensures.works c.read_page.new.into c.in_ok-read_page.ensures.bytes
    (subst (λ (kind : Kind). IsPage c.args.widths kind c.read_page.new.into) c.in-Some-Leaf.field-0-is c.in-Some-Leaf.ensures.some)

pub loop-depth-preserved : goal.loop-depth-preserved
loop-depth-preserved g c =
    at_inner _ _ _ (g.P.Pages.store c.read_page.new.self) _ _ _ c.requires c.loop-depth.invariant c.in_ok-read_page.ensures.unchanged c.in_ok-read_page.ensures.works c.read_page.new.into c.in_ok-read_page.ensures.bytes
    (c.item_at.result.0.now, c.item_at.result.1.now) c.read_u32-page.result
    (subst (λ (kind : Kind). IsPage c.args.widths kind c.read_page.new.into) c.in-Some-Inner.field-0-is c.in-Some-Inner.ensures.some)
    c.item_at.ensures.got c.read_u32-page.ensures

pub returns-in_err-read_page-clause-read : goal.returns-in_err-read_page-clause-read
returns-in_err-read_page-clause-read g c = read_then (record { unchanged = c.loop-depth.invariant.unchanged; works = c.loop-depth.invariant.works })
    (record { unchanged = c.in_err-read_page.ensures.unchanged; works = c.in_err-read_page.ensures.works })

pub returns-in-None-clause-read : goal.returns-in-None-clause-read
returns-in-None-clause-read g c = read_then (record { unchanged = c.loop-depth.invariant.unchanged; works = c.loop-depth.invariant.works })
    (record { unchanged = c.in_ok-read_page.ensures.unchanged; works = c.in_ok-read_page.ensures.works })

pub returns-in-Some-Leaf-clause-read : goal.returns-in-Some-Leaf-clause-read
returns-in-Some-Leaf-clause-read g c = read_then (record { unchanged = c.loop-depth.invariant.unchanged; works = c.loop-depth.invariant.works })
    (record { unchanged = c.in_ok-read_page.ensures.unchanged; works = c.in_ok-read_page.ensures.works })

pub returns-clause-read : goal.returns-clause-read
returns-clause-read g c = record { unchanged = c.loop-depth.invariant.unchanged; works = c.loop-depth.invariant.works }
