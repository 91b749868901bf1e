use Rattle.std.proofs.Common.{subst}
use Rattle.btree.specs.declared.page.kind.Kind.{Kind}
use Rattle.btree.specs.Page.{IsPage}
use Rattle.btree.proofs.finds.Exits.{passed_on}
use Rattle.btree.proofs.finds.ValueDescent.{sets_out, went_read, unseen, too_far}
use Rattle.btree.proofs.finds.LastLeaf.{as_seen, leads_down, leaf_for, no_page}
use Rattle.btree.proofs.find.reader.go_down.Goals as goal

pub loop-init : goal.loop-init
loop-init g c = sets_out c.args.widths (g.P.Pages.store c.args.store.now) c.args.root c.args.key.now c.requires

pub returns-in_err-read_page-clause-cause : goal.returns-in_err-read_page-clause-cause
returns-in_err-read_page-clause-cause g c =
    passed_on _ c.from_residual.result _ c.from_residual.ensures
    (unseen _ _ _ (g.P.Pages.store c.read_page.new.self) _ _ _ _ c.loop.invariant c.in_err-read_page.ensures.unchanged c.in_err-read_page.ensures.works _
    (as_seen c.args.widths (g.P.Pages.store c.loop.store) (g.P.Pages.store c.read_page.new.self) c.loop.page _ c.in_err-read_page.ensures.cause))

pub returns-in-None-clause-cause : goal.returns-in-None-clause-cause
returns-in-None-clause-cause g c =
    no_page _ _ _ (g.P.Pages.store c.read_page.new.self) _ _ _ _ c.loop.invariant c.in_ok-read_page.ensures.unchanged c.in_ok-read_page.ensures.works c.read_page.new.into c.in_ok-read_page.ensures.bytes c.in-None.ensures.none

pub returns-in-Some-Leaf-clause-page : goal.returns-in-Some-Leaf-clause-page
returns-in-Some-Leaf-clause-page g c = subst
    (λ (kind : Kind). IsPage c.args.widths kind c.read_page.new.into) c.in-Some-Leaf.field-0-is c.in-Some-Leaf.ensures.some

pub returns-in-Some-Leaf-clause-belongs : goal.returns-in-Some-Leaf-clause-belongs
returns-in-Some-Leaf-clause-belongs g c =
    leaf_for _ _ _ (g.P.Pages.store c.read_page.new.self) _ _ _ _ c.loop.invariant c.in_ok-read_page.ensures.unchanged c.in_ok-read_page.ensures.works c.read_page.new.into c.in_ok-read_page.ensures.bytes
    (subst (λ (kind : Kind). IsPage c.args.widths kind c.read_page.new.into) c.in-Some-Leaf.field-0-is c.in-Some-Leaf.ensures.some)

pub loop-preserved : goal.loop-preserved
loop-preserved g c =
    leads_down _ _ _ (g.P.Pages.store c.read_page.new.self) _ _ _ _ c.loop.invariant c.in_ok-read_page.ensures.unchanged c.in_ok-read_page.ensures.works c.read_page.new.into c.in_ok-read_page.ensures.bytes
    c.child_in-page.result
    (subst (λ (kind : Kind). IsPage c.args.widths kind c.read_page.new.into) c.in-Some-Inner.field-0-is c.in-Some-Inner.ensures.some)
    c.child_in-page.ensures

pub returns-clause-cause : goal.returns-clause-cause
returns-clause-cause g c = too_far _ _ _ _ _ _ _ c.loop.invariant c.loop-test.false

pub returns-in_err-read_page-clause-read : goal.returns-in_err-read_page-clause-read
returns-in_err-read_page-clause-read g c = went_read _ _ _ _ _ _ _ _ c.loop.invariant c.in_err-read_page.ensures.unchanged c.in_err-read_page.ensures.works

pub returns-in-None-clause-read : goal.returns-in-None-clause-read
returns-in-None-clause-read g c = went_read _ _ _ _ _ _ _ _ c.loop.invariant c.in_ok-read_page.ensures.unchanged c.in_ok-read_page.ensures.works

pub returns-in-Some-Leaf-clause-read : goal.returns-in-Some-Leaf-clause-read
returns-in-Some-Leaf-clause-read g c = went_read _ _ _ _ _ _ _ _ c.loop.invariant c.in_ok-read_page.ensures.unchanged c.in_ok-read_page.ensures.works

pub returns-clause-read : goal.returns-clause-read
returns-clause-read g c = record { unchanged = c.loop.invariant.unchanged; works = c.loop.invariant.works }
