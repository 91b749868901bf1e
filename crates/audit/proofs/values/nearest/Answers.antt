use Rattle.std.proofs.Common.{◌∙◌, sym, subst, List, take}
use Rattle.std.proofs.lemmas.List.{take_more, take_all}
use Rattle.retrograde.specs.declared.records.Record.{Record}
use Rattle.audit.specs.lemmas.Records.{IsNearest}
use Rattle.audit.proofs.ValueLemmas.{nearest_push}
use Rattle.audit.proofs.values.nearest.Goals as goal

pub loop-kept-preserved : goal.loop-kept-preserved
loop-kept-preserved c =
    subst (λ (rs : List Record). IsNearest rs c.args.player c.nearer-least.result)
    (sym (take_more c.args.records.now c.loop-kept.kept-index _ c.loop-kept-test.true))
    (nearest_push (take c.loop-kept.kept-index c.args.records.now) _ c.args.player c.loop-kept.least c.nearer-least.result c.loop-kept.invariant
    (λ none. c.nearer-least.ensures.other (λ m is. none m (sym c.told.ensures ∙ is)))
    (λ m is. c.nearer-least.ensures.first m (c.told.ensures ∙ is))
    (λ m n is. c.nearer-least.ensures.next m n (c.told.ensures ∙ is)))

pub returns : goal.returns
returns c =
    subst (λ (rs : List Record). IsNearest rs c.args.player c.loop-kept.least)
    (take_all c.loop-kept.kept-index c.args.records.now c.loop-kept-test.false) c.loop-kept.invariant
