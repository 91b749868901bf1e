use Rattle.std.proofs.Common.{◌∙◌}
use Rattle.best_line.proofs.values.value.Goals as goal

pub returns-clause-value : goal.returns-clause-value
returns-clause-value g c = λ honest table.
    c.value_of.ensures (g.T.Table.stored c.args.table.now) c.args.number table (c.in_ok-kept.ensures.record honest)
    (c.counts.ensures ∙ (c.in_ok-kept.ensures.read.counts ∙ g.met.T.Table.counts_are c.args.table.now honest))
