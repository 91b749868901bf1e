use Rattle.std.proofs.Common.{◌≡◌, ◌↔◌, true, false, refl, ℕ, List, arith, subst}
use Rattle.arrayvec.specs.ArrayVec.{ArrayVec}
use Rattle.certificate.specs.Lists.{HasRankedLine}
use Rattle.certificate.specs.Strategies.{RanksBelow}
use Rattle.certificate.proofs.ListLoops.{each_more, not_each}
use Rattle.certificate.proofs.going.each_below.Goals as goal

pub loop-next-preserved : goal.loop-next-preserved
loop-next-preserved c =
    each_more (λ (p : ArrayVec ℕ). RanksBelow (HasRankedLine c.args.list.now) c.args.rank p.items) c.args.found.now c.loop-next.next-index c.next-item.result
    c.loop-next.invariant c.loop-next-test.true c.next-item.is
    (subst (λ (y : List ℕ). RanksBelow (HasRankedLine c.args.list.now) c.args.rank y) c.deref.ensures.0 (c.if-not-ranks_below.ensures.0 refl))

pub returns-then-not-ranks_below : goal.returns-then-not-ranks_below
returns-then-not-ranks_below c =
    let here = subst (λ (y : List ℕ). (false ≡ true) ↔ RanksBelow (HasRankedLine c.args.list.now) c.args.rank y) c.deref.ensures.0 c.if-not-ranks_below.ensures in
    let bad : ¬ RanksBelow (HasRankedLine c.args.list.now) c.args.rank c.next-item.result.items = λ good. let yes = here.1 good in cc in (
      λ is. cc,
      λ each. absurd (not_each (λ (p : ArrayVec ℕ). RanksBelow
          (HasRankedLine c.args.list.now) c.args.rank p.items) c.args.found.now c.loop-next.next-index c.next-item.result
          c.loop-next-test.true c.next-item.is bad each),
    )

pub returns : goal.returns
returns c = (λ is k d lt. c.loop-next.invariant k d (omega arith), λ each. refl)
