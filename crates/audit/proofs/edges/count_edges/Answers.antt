use Rattle.std.proofs.Common.{◌≡◌, ◌<◌, ap, length, subst, List, ℕ, arith}
use Rattle.retrograde.specs.declared.records.Counts.{Counts}
use Rattle.retrograde.specs.Stored.{Stored, count_below}
use Rattle.retrograde.specs.Edges.{IsAfter, IsNextEdge, HasNoMoreEdges}
use Rattle.audit.proofs.Exits.{fault_since}
use Rattle.audit.proofs.EdgeLemmas.{count_next, count_all, count_full, after_bound}
use Rattle.table.proofs.Frames.{read_then}
use Rattle.audit.proofs.edges.count_edges.Goals as goal

pub loop-count-preserved : goal.loop-count-preserved
loop-count-preserved g c = record {
  few = let later : IsAfter c.loop-count.after c.in-Some.from = rw c.in-Some.is at c.in_ok-from.ensures.later in
      omega (arith, after_bound c.loop-count.after c.in-Some.from later, c.loop-count.invariant.few);
  within = let p : c.in-Some.from < (g.T.Table.counted c.loop-count.table).known = rw c.in-Some.is at c.in_ok-from.ensures.within in
      omega (arith, ap (λ (k : Counts). k.known) c.loop-count.invariant.read.counts);
  read = read_then g.met.T.Table.stays_then c.loop-count.invariant.read c.in_ok-from.ensures.read;
  counted = λ honest.
      let h = c.loop-count.invariant.read.honest.0 honest in
      let edge = rw c.in-Some.is at c.in_ok-from.ensures.next h in
      let edge' = subst (λ (t : Stored (List ℕ)). IsNextEdge t c.args.to c.loop-count.after c.in-Some.from) (c.loop-count.invariant.read.same honest) edge in
      count_next (g.T.Table.stored c.args.table.now) c.args.to c.loop-count.after c.in-Some.from c.loop-count.count edge'
      (c.loop-count.invariant.counted honest);
}

pub returns-in_default-clause-count : goal.returns-in_default-clause-count
returns-in_default-clause-count g c = λ honest.
    let h = c.loop-count.invariant.read.honest.0 honest in
    let none = rw c.in_default.is at c.in_ok-from.ensures.none h in
    let none' = subst (λ (t : Stored (List ℕ)). HasNoMoreEdges t c.args.to c.loop-count.after) (c.loop-count.invariant.read.same honest) none in
    let count = ap (λ (k : Counts). k.known) (g.met.T.Table.counts_are c.args.table.now honest) in
    count_all (g.T.Table.stored c.args.table.now) c.args.to c.loop-count.after (length (g.T.Table.stored c.args.table.now).positions) c.loop-count.count none'
    (omega (arith, count, c.loop-count.invariant.within)) (c.loop-count.invariant.counted honest)

pub returns-clause-count : goal.returns-clause-count
returns-clause-count g c = λ honest.
    let count = ap (λ (k : Counts). k.known) (g.met.T.Table.counts_are c.args.table.now honest) in
    let all = ap (λ (k : Counts). k.known) c.counts-known.ensures in
    let size = length (g.T.Table.stored c.args.table.now).positions in
    let it : size ≡ count_below size (λ p. (g.T.Table.stored c.args.table.now).has_edge c.args.to p) =
    count_full (g.T.Table.stored c.args.table.now) c.args.to c.loop-count.after size c.loop-count.count
    (omega (arith, count, all, c.loop-count-test.false)) c.loop-count.invariant.few (omega (arith, count, c.loop-count.invariant.within))
    (c.loop-count.invariant.counted honest) in
    let same : c.counts-known.result.known ≡ size = omega (arith, count, all) in
    rw same it

pub returns-in_err-from-clause-fault : goal.returns-in_err-from-clause-fault
returns-in_err-from-clause-fault g c = fault_since g.met.T.Table.stays_goes_on g.met.T.Table.fails_since c.loop-count.invariant.read c.from_residual.result
    c.from_residual.ensures c.in_err-from.ensures.fault
