use Rattle.std.proofs.Common.{◌∙◌, sym, subst, Some, List, take}
use Rattle.std.proofs.lemmas.List.{take_more, take_all}
use Rattle.retrograde.specs.declared.records.Record.{Record}
use Rattle.audit.specs.lemmas.Records.{IsFarthest}
use Rattle.audit.proofs.ValueLemmas.{farthest_push, farthest_done, IsFarthestSoFar}
use Rattle.audit.proofs.values.farthest.Goals as goal

pub loop-kept-preserved : goal.loop-kept-preserved
loop-kept-preserved c =
    subst (λ (rs : List Record). IsFarthest rs (Some c.farther.result)) (sym (take_more c.args.records.now c.loop-kept.kept-index _ c.loop-kept-test.true))
    (farthest_push (take c.loop-kept.kept-index c.args.records.now) _ c.loop-kept.most c.in-Some.won c.farther.result c.loop-kept.invariant
    (sym c.told.ensures ∙ c.in-Some.is) c.farther.ensures.first c.farther.ensures.next)

pub returns : goal.returns
returns c =
    farthest_done c.args.records.now c.loop-kept.most
    (subst (λ (rs : List Record). IsFarthestSoFar rs c.loop-kept.most)
    (take_all c.loop-kept.kept-index c.args.records.now c.loop-kept-test.false) c.loop-kept.invariant)
