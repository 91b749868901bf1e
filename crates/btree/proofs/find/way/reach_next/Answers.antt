use Rattle.std.proofs.Common.{◌≡◌, ◌+◌, ℕ, Bool, true, None, Some, ap, subst, sym}
use Rattle.page_store.specs.Store.{reads}
use Rattle.btree.specs.Answers.{filled_bytes, filled_entry}
use Rattle.btree.specs.lemmas.Ahead.{LeavesAs, SeesAhead}
use Rattle.btree.specs.declared.find.ahead.Ahead.{Ahead}
use Rattle.btree.specs.declared.find.entry.Entry.{Entry}
use Rattle.btree.proofs.finds.Exits.{passed_on}
use Rattle.btree.proofs.finds.NextDescent.{looked_read, looked_leaf, looked_on, not_seen}
use Rattle.btree.proofs.finds.LeafDescent.{IsReaching, starts, too_deep}
use Rattle.btree.proofs.find.way.reach_next.Goals as goal
use Rattle.btree.proofs.find.way.reach_next.Goals.{in-Before, in-Last}

pub loop-init : goal.loop-init
loop-init g c = starts c.args.widths (g.P.Pages.store c.args.store.now) c.args.root c.args.key.now c.requires

pub returns-in_err-found-clause-cause : goal.returns-in_err-found-clause-cause
returns-in_err-found-clause-cause g c =
    passed_on _ c.from_residual.result _ c.from_residual.ensures
    (not_seen _ _ _ (g.P.Pages.store c.ahead_at.new.store) _ _ _ _ _ c.loop.invariant c.in_err-found.ensures.read.unchanged c.in_err-found.ensures.read.works _ c.in_err-found.ensures.cause)

pub returns-in-Next-clause-reaches : goal.returns-in-Next-clause-reaches
returns-in-Next-clause-reaches g c = λ honest.
    let same = subst (λ (a : Ahead). LeavesAs c.loop.into c.ahead_at.new.into a) c.in-Next.is c.in_ok-found.ensures.same in
    record {
      next = filled_bytes c.loop.more c.loop.into.key;
      reaches = looked_leaf _ _ _ _ _ _ _ _ _ c.loop.invariant c.in_ok-found.ensures.read.unchanged c.in_ok-found.ensures.read.works
          (filled_entry c.in-Next.found c.ahead_at.new.into)
          (λ h. subst (λ (a : Ahead). SeesAhead c.args.widths
          (reads (g.P.Pages.store c.loop.store) c.loop.page) c.args.key.now c.ahead_at.new.into a) c.in-Next.is (c.in_ok-found.ensures.seen h)) honest;
      behind = λ none. ap (λ (e : Entry). filled_bytes c.loop.more e.key) (same none);
    }

pub loop-preserved : goal.loop-preserved
loop-preserved g c =
    let w = c.args.widths in
    let old = g.P.Pages.store c.args.store.now in
    let new = g.P.Pages.store c.ahead_at.new.store in
    let key = c.args.key.now in
    let next = c.ahead_at.new.into.key in
    let read = c.in_ok-found.ensures.read in
    let joined : (child : ℕ) (more : Bool) → c.match-branch-2.page ≡ child → c.match-branch-2.more ≡ more
    → IsReaching w old new c.args.root key (c.loop.counter + 1) child (filled_bytes more next)
    → IsReaching w old new c.args.root key (c.loop.counter + 1) c.match-branch-2.page (filled_bytes c.match-branch-2.more next) =
    λ child more page_is more_is reaching.
    subst (λ (n : ℕ). IsReaching w old new c.args.root key (c.loop.counter + 1) n (filled_bytes c.match-branch-2.more next)) (sym page_is)
    (subst (λ (b : Bool). IsReaching w old new c.args.root key (c.loop.counter + 1) child (filled_bytes b next)) (sym more_is) reaching) in
    elim c.match-branch-2.branch [
      | in-Before b ↦ joined b.in-Before.child true b.page-is b.more-is
          (looked_on _ _ _ _ _ _ _ _ _ c.loop.invariant read.unchanged read.works b.in-Before.child (Some next.items)
          (λ h. subst (λ (a : Ahead). SeesAhead w (reads (g.P.Pages.store c.loop.store) c.loop.page) key c.ahead_at.new.into a)
          b.in-Before.is (c.in_ok-found.ensures.seen h)))
      | in-Last b ↦
          let same = subst (λ (a : Ahead). LeavesAs c.loop.into c.ahead_at.new.into a) b.in-Last.is c.in_ok-found.ensures.same in
          joined b.in-Last.child c.loop.more b.page-is b.more-is
          (subst (λ (e : Entry). IsReaching w old new c.args.root key (c.loop.counter + 1) b.in-Last.child (filled_bytes c.loop.more e.key)) (sym same)
          (looked_on _ _ _ _ _ _ _ _ _ c.loop.invariant read.unchanged read.works b.in-Last.child None
          (λ h. subst (λ (a : Ahead). SeesAhead w (reads (g.P.Pages.store c.loop.store) c.loop.page) key c.ahead_at.new.into a)
          b.in-Last.is (c.in_ok-found.ensures.seen h))))
    ]

pub returns-clause-cause : goal.returns-clause-cause
returns-clause-cause g c = too_deep _ _ _ _ _ _ _ _ c.loop.invariant c.loop-test.false

pub returns-in_err-found-clause-read : goal.returns-in_err-found-clause-read
returns-in_err-found-clause-read g c = looked_read _ _ _ _ _ _ _ _ _ c.loop.invariant c.in_err-found.ensures.read.unchanged c.in_err-found.ensures.read.works

pub returns-in-Next-clause-read : goal.returns-in-Next-clause-read
returns-in-Next-clause-read g c = looked_read _ _ _ _ _ _ _ _ _ c.loop.invariant c.in_ok-found.ensures.read.unchanged c.in_ok-found.ensures.read.works

pub returns-clause-read : goal.returns-clause-read
returns-clause-read g c = record { unchanged = c.loop.invariant.unchanged; works = c.loop.invariant.works }
