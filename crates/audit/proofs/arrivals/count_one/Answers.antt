use Rattle.std.proofs.Common.{◌≡◌, ◌<◌, ap, subst, ℕ, List, Some, true, false, length, rules, arith, slice_get, slice_set}
use Rattle.retrograde.specs.Stored.{Stored}
use Rattle.audit.proofs.Exits.{fault_since}
use Rattle.audit.proofs.ArrivalLemmas.{unknown_counted, none_counted, one_counted}
use Rattle.audit.proofs.arrivals.count_one.Goals as goal

pub returns-in_default-clause-counted : goal.returns-in_default-clause-counted
returns-in_default-clause-counted g c = λ honest table i x at.
    unknown_counted (g.T.Table.stored c.args.table.now) i c.args.from x c.args.position.now.items at c.args.arrivals.now.items
    (rw c.in_default.is at c.in_ok-number.ensures.unknown honest)

pub returns-then-not-branch-clause-counted : goal.returns-then-not-branch-clause-counted
returns-then-not-branch-clause-counted g c = λ honest table i x at.
    let h = c.in_ok-number.ensures.read.honest.0 honest in
    let stored = g.T.Table.stored c.args.table.now in
    let found : slice_get stored.positions c.in-Some.number ≡ Some c.args.position.now.items = rw c.in-Some.is at c.in_ok-number.ensures.found honest in
    let there = subst (λ (t : Stored (List ℕ)). c.in_ok-has_edge.field-0 ≡ t.has_edge c.in-Some.number c.args.from)
    (c.in_ok-number.ensures.read.same honest) (c.in_ok-has_edge.ensures.there h) in
    let fails : c.in_ok-has_edge.field-0 ≡ false = search rules in
    let none : stored.has_edge c.in-Some.number c.args.from ≡ false = cc in
    none_counted stored i c.args.from x c.args.position.now.items at table c.in-Some.number found c.args.arrivals.now.items none

pub returns-clause-counted : goal.returns-clause-counted
returns-clause-counted g c = λ honest table i x at.
    let h = c.in_ok-number.ensures.read.honest.0 honest in
    let stored = g.T.Table.stored c.args.table.now in
    let found : slice_get stored.positions c.in-Some.number ≡ Some c.args.position.now.items = rw c.in-Some.is at c.in_ok-number.ensures.found honest in
    let there = subst (λ (t : Stored (List ℕ)). c.in_ok-has_edge.field-0 ≡ t.has_edge c.in-Some.number c.args.from)
    (c.in_ok-number.ensures.read.same honest) (c.in_ok-has_edge.ensures.there h) in
    let passes : c.in_ok-has_edge.field-0 ≡ true = search rules in
    let edge : stored.has_edge c.in-Some.number c.args.from ≡ true = cc in
    let few : c.in-Some.number < (g.T.Table.counted c.args.table.now).known = rw c.in-Some.is at c.in_ok-number.ensures.within in
    let within : c.in-Some.number < length c.args.arrivals.now.items = omega (arith, few, c.requires) in
    one_counted stored i c.args.from x c.args.position.now.items at table c.in-Some.number found c.args.arrivals.now.items _
    c.index-count.result.now edge within c.index-count.ensures (ap (λ (m : ℕ). slice_set c.args.arrivals.now.items c.in-Some.number m) c.saturating_add.ensures)

pub returns-in_err-has_edge-clause-fault : goal.returns-in_err-has_edge-clause-fault
returns-in_err-has_edge-clause-fault g c = fault_since g.met.T.Table.stays_goes_on g.met.T.Table.fails_since
    c.in_ok-number.ensures.read c.from_residual-in_err-has_edge.result c.from_residual-in_err-has_edge.ensures c.in_err-has_edge.ensures.fault
