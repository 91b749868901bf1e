use Rattle.std.proofs.Common.{◌≡◌, ◌↔◌, true, false, refl, sym, ℕ, List, arith, subst}
use Rattle.arrayvec.specs.ArrayVec.{ArrayVec}
use Rattle.certificate.specs.Lists.{HasRankedLine}
use Rattle.certificate.specs.Strategies.{RanksBelow}
use Rattle.certificate.proofs.ListLoops.{each_more, none_found}
use Rattle.certificate.proofs.going.some_below.Goals as goal

pub loop-next-preserved : goal.loop-next-preserved
loop-next-preserved c =
    let here = subst (λ (y : List ℕ). (false ≡ true) ↔ RanksBelow (HasRankedLine c.args.list.now) c.args.rank y) c.deref.ensures.0 c.if-ranks_below.ensures in
    let bad : ¬ RanksBelow (HasRankedLine c.args.list.now) c.args.rank c.next-item.result.items = λ good. let yes = here.1 good in cc in
    each_more (λ (p : ArrayVec ℕ). ¬ RanksBelow (HasRankedLine c.args.list.now) c.args.rank p.items) c.args.found.now c.loop-next.next-index c.next-item.result
    c.loop-next.invariant c.loop-next-test.true c.next-item.is bad

pub returns-then-ranks_below : goal.returns-then-ranks_below
returns-then-ranks_below c = (
  λ is. (
    c.next-item.result,
    (c.loop-next.next-index, c.loop-next-test.true, sym c.next-item.is),
    subst (λ (y : List ℕ). RanksBelow (HasRankedLine c.args.list.now) c.args.rank y) c.deref.ensures.0 (c.if-ranks_below.ensures.0 refl),
  ),
  λ some. refl,
)

pub returns : goal.returns
returns c = (
  λ is. cc,
  λ some. absurd (none_found (λ (p : ArrayVec ℕ). RanksBelow (HasRankedLine c.args.list.now) c.args.rank p.items) c.args.found.now
      (λ k d lt. c.loop-next.invariant k d (omega arith)) some),
)
