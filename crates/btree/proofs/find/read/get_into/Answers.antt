use Rattle.std.proofs.Common.{subst}
use Rattle.page_store.specs.Store.{reads}
use Rattle.btree.specs.Answers.{filled_bytes}
use Rattle.btree.specs.lemmas.Seen.{Sees}
use Rattle.btree.specs.declared.find.look.Seen.{Seen}
use Rattle.btree.proofs.finds.Lookups.{none_found}
use Rattle.btree.proofs.finds.ValueDescent.{sets_out, went_read, ends_there, goes_on_to, unseen, too_far}
use Rattle.btree.proofs.finds.Exits.{passed_on}
use Rattle.page_store.specs.lemmas.Frames.{read_refl}
use Rattle.btree.proofs.find.read.get_into.Goals as goal

pub returns-then-root-eq0-clause-found : goal.returns-then-root-eq0-clause-found
returns-then-root-eq0-clause-found g c = λ honest. none_found c.args.widths (g.P.Pages.store c.args.store.now) c.args.root c.args.key.now c.if-root-eq0.true

pub loop-init : goal.loop-init
loop-init g c = sets_out c.args.widths (g.P.Pages.store c.args.store.now) c.args.root c.args.key.now c.if-root-eq0.false

pub returns-in_err-found-clause-cause : goal.returns-in_err-found-clause-cause
returns-in_err-found-clause-cause g c =
    passed_on _ c.from_residual.result _ c.from_residual.ensures
    (unseen _ _ _ (g.P.Pages.store c.look_at.new.store) _ _ _ _ c.loop.invariant c.in_err-found.ensures.read.unchanged c.in_err-found.ensures.read.works _ c.in_err-found.ensures.cause)

pub returns-in-Value-clause-found : goal.returns-in-Value-clause-found
returns-in-Value-clause-found g c = λ honest.
    ends_there _ _ _ _ _ _ _ _ c.loop.invariant c.in_ok-found.ensures.read.unchanged c.in_ok-found.ensures.read.works
    (filled_bytes c.in-Value.found c.look_at.new.into)
    (λ h. subst (λ (s : Seen). Sees c.args.widths
    (reads (g.P.Pages.store c.loop.store) c.loop.page) c.args.key.now c.look_at.new.into s) c.in-Value.is (c.in_ok-found.ensures.seen h)) honest

pub loop-preserved : goal.loop-preserved
loop-preserved g c =
    goes_on_to _ _ _ _ _ _ _ _ c.loop.invariant c.in_ok-found.ensures.read.unchanged c.in_ok-found.ensures.read.works c.in-Child.child
    (λ h. subst (λ (s : Seen). Sees c.args.widths
    (reads (g.P.Pages.store c.loop.store) c.loop.page) c.args.key.now c.look_at.new.into s) c.in-Child.is (c.in_ok-found.ensures.seen h))

pub returns-clause-cause : goal.returns-clause-cause
returns-clause-cause g c = too_far _ _ _ _ _ _ _ c.loop.invariant c.loop-test.false

pub returns-then-root-eq0-clause-read : goal.returns-then-root-eq0-clause-read
returns-then-root-eq0-clause-read g c = read_refl _

pub returns-in_err-found-clause-read : goal.returns-in_err-found-clause-read
returns-in_err-found-clause-read g c = went_read _ _ _ _ _ _ _ _ c.loop.invariant c.in_err-found.ensures.read.unchanged c.in_err-found.ensures.read.works

pub returns-in-Value-clause-read : goal.returns-in-Value-clause-read
returns-in-Value-clause-read g c = went_read _ _ _ _ _ _ _ _ c.loop.invariant c.in_ok-found.ensures.read.unchanged c.in_ok-found.ensures.read.works

pub returns-clause-read : goal.returns-clause-read
returns-clause-read g c = record { unchanged = c.loop.invariant.unchanged; works = c.loop.invariant.works }
