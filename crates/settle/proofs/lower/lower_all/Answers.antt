use Rattle.std.proofs.Common.{◌<◌, suc, rules, ap, length, refl, arith}
use Rattle.retrograde.specs.declared.records.Counts.{Counts}
use Rattle.settle.proofs.Bounds.{bound_of, step, stuck_at, ends}
use Rattle.settle.proofs.Pages.{edges_to, one_more, through, reading_takes, lowering_takes}
use Rattle.table.proofs.Frames.{as_written, written_then}
use Rattle.settle.proofs.lower.lower_all.Goals as goal

pub returns-in_err-lower-clause-stuck : goal.returns-in_err-lower-clause-stuck
returns-in_err-lower-clause-stuck g c = λ honest is.
    let h = c.loop-predecessor.invariant.written.honest.0 honest in
    let edge = rw c.in-Some.is at c.in_ok-predecessor.ensures.next h in
    let (r, has, stuck) = c.in_err-lower.ensures.stuck (c.in_ok-predecessor.ensures.read.honest.0 h) (search rules) in (
      c.in-Some.predecessor,
      stuck_at (g.M.GameGraph.graph c.args.source.now) c.args.number c.args.winner c.args.distance (g.T.Table.stored c.args.table.now)
          _ _ c.loop-predecessor.after (c.loop-predecessor.invariant.done honest)
          (c.in_ok-predecessor.ensures.read.same h) c.in-Some.predecessor edge r has stuck,
    )

pub loop-predecessor-preserved : goal.loop-predecessor-preserved
loop-predecessor-preserved g c = record {
  within = let p : c.in-Some.predecessor < (g.T.Table.counted c.loop-predecessor.table).known =
      rw c.in-Some.is at c.in_ok-predecessor.ensures.within in omega (arith, c.loop-predecessor.invariant.written.known);
  written = written_then g.met.T.Table.goes_on_then (written_then g.met.T.Table.goes_on_then c.loop-predecessor.invariant.written
      (as_written g.met.T.Table.stays_goes_on c.in_ok-predecessor.ensures.read)) c.in_ok-lower.ensures.ok;
  source = refl;
  taken = λ honest.
      let h = c.loop-predecessor.invariant.written.honest.0 honest in
      let edge = rw c.in-Some.is at c.in_ok-predecessor.ensures.next h in
      lowering_takes _ _ _ _ _ _ (c.loop-predecessor.invariant.taken honest) (g.met.T.Table.stays_free _ _ c.in_ok-predecessor.ensures.read.stays)
      c.in_ok-lower.ensures.takes
      (one_more (g.M.GameGraph.graph c.args.source.now) c.args.number c.args.winner c.args.distance (g.T.Table.stored c.args.table.now)
      _ c.loop-predecessor.after (c.loop-predecessor.invariant.done honest) c.in-Some.predecessor edge);
  done = λ honest.
      let h = c.loop-predecessor.invariant.written.honest.0 honest in
      let edge = rw c.in-Some.is at c.in_ok-predecessor.ensures.next h in
      step (g.M.GameGraph.graph c.args.source.now) c.args.number c.args.winner c.args.distance (g.T.Table.stored c.args.table.now)
      _ _ c.loop-predecessor.after (c.loop-predecessor.invariant.done honest) (c.in_ok-predecessor.ensures.read.same h) c.in-Some.predecessor edge
      (g.T.Table.stored c.lower.new.table) (c.in_ok-lower.ensures.lowered (c.in_ok-predecessor.ensures.read.honest.0 h));
}

pub returns-clause-lowered : goal.returns-clause-lowered
returns-clause-lowered g c = λ honest.
    let h = c.loop-predecessor.invariant.written.honest.0 honest in
    let none = rw c.in_default.is at c.in_ok-predecessor.ensures.none h in
    let count = ap (λ (k : Counts). k.known) (g.met.T.Table.counts_are c.args.table.now honest) in
    ends (g.M.GameGraph.graph c.args.source.now) c.args.number c.args.winner c.args.distance (g.T.Table.stored c.args.table.now)
    _ _ c.loop-predecessor.after (c.loop-predecessor.invariant.done honest) (c.in_ok-predecessor.ensures.read.same h) none
    (length (g.T.Table.stored c.args.table.now).positions) (omega (arith, count, c.loop-predecessor.invariant.within))

pub returns-in_err-predecessor-clause-takes : goal.returns-in_err-predecessor-clause-takes
returns-in_err-predecessor-clause-takes g c = λ honest.
    let count = ap (λ (k : Counts). k.known) (g.met.T.Table.counts_are c.args.table.now honest) in
    reading_takes _ _ _ _ _ (c.loop-predecessor.invariant.taken honest) (g.met.T.Table.stays_free _ _ c.in_err-predecessor.ensures.read.stays)
    (edges_to (g.T.Table.stored c.args.table.now) c.args.number (bound_of c.loop-predecessor.after) _
    (omega (arith, count, c.loop-predecessor.invariant.within)))

pub returns-in_err-lower-clause-takes : goal.returns-in_err-lower-clause-takes
returns-in_err-lower-clause-takes g c = λ honest.
    let h = c.loop-predecessor.invariant.written.honest.0 honest in
    let edge = rw c.in-Some.is at c.in_ok-predecessor.ensures.next h in
    let count = ap (λ (k : Counts). k.known) (g.met.T.Table.counts_are c.args.table.now honest) in
    let within : c.in-Some.predecessor < (g.T.Table.counted c.loop-predecessor.table).known = rw c.in-Some.is at c.in_ok-predecessor.ensures.within in
    let more = one_more (g.M.GameGraph.graph c.args.source.now) c.args.number c.args.winner c.args.distance (g.T.Table.stored c.args.table.now)
    _ c.loop-predecessor.after (c.loop-predecessor.invariant.done honest) c.in-Some.predecessor edge in
    let all = edges_to (g.T.Table.stored c.args.table.now) c.args.number (suc c.in-Some.predecessor) (length (g.T.Table.stored c.args.table.now).positions)
    (omega (arith, count, within, c.loop-predecessor.invariant.written.known)) in
    lowering_takes _ _ _ _ _ _ (c.loop-predecessor.invariant.taken honest) (g.met.T.Table.stays_free _ _ c.in_ok-predecessor.ensures.read.stays)
    c.in_err-lower.ensures.takes (through more all)

pub returns-clause-takes : goal.returns-clause-takes
returns-clause-takes g c = λ honest.
    let count = ap (λ (k : Counts). k.known) (g.met.T.Table.counts_are c.args.table.now honest) in
    reading_takes _ _ _ _ _ (c.loop-predecessor.invariant.taken honest) (g.met.T.Table.stays_free _ _ c.in_ok-predecessor.ensures.read.stays)
    (edges_to (g.T.Table.stored c.args.table.now) c.args.number (bound_of c.loop-predecessor.after) _
    (omega (arith, count, c.loop-predecessor.invariant.within)))

pub returns-clause-ok : goal.returns-clause-ok
returns-clause-ok g c =
    written_then g.met.T.Table.goes_on_then c.loop-predecessor.invariant.written (as_written g.met.T.Table.stays_goes_on c.in_ok-predecessor.ensures.read)
