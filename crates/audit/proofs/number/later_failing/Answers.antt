use Rattle.table.proofs.Exits.{passed_on}
use Rattle.audit.proofs.Exits.{since}
use Rattle.std.proofs.Common.{◌∙◌, ◌<◌, ◌≤◌, ap, arith}
use Rattle.retrograde.specs.declared.records.Counts.{Counts}
use Rattle.retrograde.specs.Stored.{expanded_count}
use Rattle.audit.specs.lemmas.Conditions.{AreItsRecords}
use Rattle.audit.proofs.LowestLemmas.{second_fails, order_fails, value_fails, waiting_all}
use Rattle.audit.proofs.number.later_failing.Goals as goal

pub returns-then-number-counts-clause-lowest : goal.returns-then-number-counts-clause-lowest
returns-then-number-counts-clause-lowest g c = λ honest table has floor reached.
    let counts = c.counts-counts.ensures ∙ g.met.T.Table.counts_are _ honest in
    let stored = g.T.Table.stored c.args.table.now in
    let e = ap (λ (k : Counts). k.expanded) counts in
    let above : expanded_count stored ≤ c.args.number = omega (arith, e, c.if-number-counts.true) in
    waiting_all (g.M.GameGraph.graph c.args.source.now) stored c.args.number c.args.at.now.items reached above c.waiting_failing.result
    (c.waiting_failing.ensures stored c.args.number table has counts floor above)

pub returns-in_default-clause-lowest : goal.returns-in_default-clause-lowest
returns-in_default-clause-lowest g c = λ honest table has floor reached.
    let counts = c.counts-counts.ensures ∙ g.met.T.Table.counts_are _ honest in
    let stored = g.T.Table.stored c.args.table.now in
    let e = ap (λ (k : Counts). k.expanded) counts in
    let within : c.args.number < expanded_count stored = omega (arith, e, c.if-number-counts.false) in
    let fails = rw c.in_default.is at c.in_ok-successors.ensures.fails honest table has in
    second_fails (g.M.GameGraph.graph c.args.source.now) stored c.args.number c.args.at.now.items reached within fails

pub returns-in-Some-order_failing-clause-lowest : goal.returns-in-Some-order_failing-clause-lowest
returns-in-Some-order_failing-clause-lowest g c = λ honest table has floor reached.
    let counts = c.counts-counts.ensures ∙ g.met.T.Table.counts_are _ honest in
    let stored = g.T.Table.stored c.args.table.now in
    let it : AreItsRecords (g.M.GameGraph.graph c.args.source.now) stored c.args.number c.args.at.now.items c.in-Some.successors.items
    = rw c.in-Some.is at c.in_ok-successors.ensures.records honest table has in
    order_fails (g.M.GameGraph.graph c.args.source.now) stored c.args.number c.args.at.now.items reached (λ _. (it.ys, it.js, it.moves))
    c.in-Some-order_failing.reason (rw c.in-Some-order_failing.is at c.order_failing.ensures stored c.args.number table has counts floor)

pub returns-clause-lowest : goal.returns-clause-lowest
returns-clause-lowest g c = λ honest table has floor reached.
    let counts = c.counts-counts.ensures ∙ g.met.T.Table.counts_are _ honest in
    let stored = g.T.Table.stored c.args.table.now in
    let e = ap (λ (k : Counts). k.expanded) counts in
    let within : c.args.number < expanded_count stored = omega (arith, e, c.if-number-counts.false) in
    let it : AreItsRecords (g.M.GameGraph.graph c.args.source.now) stored c.args.number c.args.at.now.items c.in-Some.successors.items
    = rw c.in-Some.is at c.in_ok-successors.ensures.records honest table has in
    value_fails (g.M.GameGraph.graph c.args.source.now) stored c.args.number c.args.at.now.items reached (λ _. (it.ys, it.js, it.moves))
    (rw c.in_default-order_failing.is at c.order_failing.ensures stored c.args.number table has counts floor) table within c.value_failing.result
    (c.value_failing.ensures stored c.args.number table has within (rw c.deref.ensures.value it))

pub returns-in_err-successors-clause-err : goal.returns-in_err-successors-clause-err
returns-in_err-successors-clause-err g c =
    passed_on _ c.from_residual.result _ c.from_residual.ensures
    (since (λ wide honest.
    let expanded = ap (λ (k : Counts). k.expanded) (c.counts-counts.ensures ∙ g.met.T.Table.counts_are _ honest) in
    (omega (arith, expanded, c.if-number-counts.false), wide))
    (λ fault fails. fails)
    c.in_err-successors.ensures.err)
