use Rattle.audit.proofs.Exits.{table_since}
use Rattle.std.proofs.Common.{◌≡◌, ◌∙◌, sym, subst, ℕ, List, length}
use Rattle.retrograde.specs.Stored.{Stored, count_below}
use Rattle.audit.proofs.ArrivalLemmas.{edges_are_moves, as_many_edges}
use Rattle.audit.proofs.LowestLemmas.{stray_lower, stray_there, no_stray}
use Rattle.audit.proofs.number.failing.Goals as goal

pub returns-then-is_lower-clause-lowest : goal.returns-then-is_lower-clause-lowest
returns-then-is_lower-clause-lowest g c = λ honest table floor x at arriving.
    stray_lower (g.M.GameGraph.graph c.args.source.now) (g.T.Table.stored c.args.table.now) c.args.number x c.in_ok-own.own
    (c.is_lower.ensures.lower c.if-is_lower.true) (c.in_ok-own.ensures.lowest honest table floor x at)

pub returns-then-branch-arriving-clause-lowest : goal.returns-then-branch-arriving-clause-lowest
returns-then-branch-arriving-clause-lowest g c = λ honest table floor x at arriving.
    let h = c.in_ok-own.ensures.read.honest.0 honest in
    let graph = g.M.GameGraph.graph c.args.source.now in
    let stored = g.T.Table.stored c.args.table.now in
    let count = subst (λ (t : Stored (List ℕ)). c.in_ok-count_edges.field-0 ≡ count_below (length t.positions) (λ p. t.has_edge c.args.number p))
    (c.in_ok-own.ensures.read.same honest) (c.in_ok-count_edges.ensures.count h) in
    stray_there graph stored c.args.number x c.in_ok-own.own (c.is_lower.ensures.other c.if-is_lower.false).0
    (c.in_ok-own.ensures.lowest honest table floor x at)
    (λ moves. c.if-branch-arriving.true (count ∙ sym (as_many_edges graph stored c.args.number x table c.args.arriving arriving moves)))

pub returns-clause-lowest : goal.returns-clause-lowest
returns-clause-lowest g c = λ honest table floor x at arriving.
    let h = c.in_ok-own.ensures.read.honest.0 honest in
    let graph = g.M.GameGraph.graph c.args.source.now in
    let stored = g.T.Table.stored c.args.table.now in
    let count = subst (λ (t : Stored (List ℕ)). c.in_ok-count_edges.field-0 ≡ count_below (length t.positions) (λ p. t.has_edge c.args.number p))
    (c.in_ok-own.ensures.read.same honest) (c.in_ok-count_edges.ensures.count h) in
    no_stray graph stored c.args.number x c.in_ok-own.own (c.is_lower.ensures.other c.if-is_lower.false).1 (c.in_ok-own.ensures.lowest honest table floor x at)
    (edges_are_moves graph stored c.args.number x table c.args.arriving arriving (sym c.if-branch-arriving.false ∙ count))

pub returns-in_err-count_edges-clause-err : goal.returns-in_err-count_edges-clause-err
returns-in_err-count_edges-clause-err g c = table_since g.met.T.Table.stays_goes_on g.met.T.Table.fails_since
    c.in_ok-own.ensures.read
    _ c.from_residual-in_err-count_edges.result c.from_residual-in_err-count_edges.ensures c.in_err-count_edges.ensures.room c.in_err-count_edges.ensures.fault
