use Rattle.std.proofs.Common.{ap, arith, Err}
use Rattle.std.proofs.lemmas.Cmp.{nat_list_cmp_total}
use Rattle.retrograde.specs.declared.records.Counts.{Counts}
use Rattle.retrograde.specs.Successors.{packed_cmp}
use Rattle.frontier.proofs.NotedLemmas.{unknown_here, noted_here}
use Rattle.frontier.specs.declared.fault.StepFault.{StepFault}
use Rattle.table.proofs.Exits.{not_this, passed_on}
use Rattle.frontier.proofs.Frames.{grown_then, given_up_since}
use Rattle.frontier.proofs.note.note_all.Goals as goal

pub note-requires-clause-unknown : goal.note-requires-clause-unknown
note-requires-clause-unknown g c = λ h.
    let (noted, ready) = c.loop-i.invariant.ready (c.loop-i.invariant.ok.honest.1 h) in
    unknown_here (λ p. p.items) c.args.successors.now c.loop-i.i c.index-successors-i.result c.loop-i-test.true c.index-successors-i.is packed_cmp nat_list_cmp_total
    (g.T.Table.stored c.args.table.now).positions c.args.predecessor c.args.numbers.now c.requires.lengths (g.T.Table.stored c.loop-i.table) ready
    (g.T.Table.counted c.loop-i.table).known (ap (λ (n : Counts). n.known) (g.met.T.Table.counts_are c.loop-i.table h))

pub loop-i-preserved : goal.loop-i-preserved
loop-i-preserved g c = record {
  ok = grown_then g.met.T.Table.goes_on_then c.loop-i.invariant.ok c.in_ok-note.ensures.ok;
  taken = omega (arith, c.loop-i.invariant.taken, c.in_ok-note.ensures.takes);
  ready = λ honest.
      let h = c.loop-i.invariant.ok.honest.0 honest in
      let (noted, ready) = c.loop-i.invariant.ready honest in
      noted_here (λ p. p.items) c.args.successors.now c.loop-i.i c.index-successors-i.result c.loop-i-test.true c.index-successors-i.is packed_cmp nat_list_cmp_total
      (g.T.Table.stored c.args.table.now).positions c.args.predecessor c.args.numbers.now c.requires.lengths (g.T.Table.stored c.loop-i.table) ready
      (g.T.Table.counted c.loop-i.table).known (ap (λ (n : Counts). n.known) (g.met.T.Table.counts_are c.loop-i.table h))
      (g.T.Table.stored c.args.table.now) (g.T.Table.stored c.note.new.table) noted (c.in_ok-note.ensures.noted h).0 (c.in_ok-note.ensures.noted h).1;
}

pub returns-in_err-note-clause-consistent : goal.returns-in_err-note-clause-consistent
returns-in_err-note-clause-consistent g c =
    λ is. c.in_err-note.ensures.consistent (ap (λ (f : StepFault). Err f) (not_this c.from_residual.result _ _ c.from_residual.ensures is))

pub returns-in_err-note-clause-takes : goal.returns-in_err-note-clause-takes
returns-in_err-note-clause-takes g c = omega (arith, c.loop-i.invariant.taken, c.in_err-note.ensures.takes, c.requires.lengths, c.loop-i-test.true)

pub returns-clause-takes : goal.returns-clause-takes
returns-clause-takes g c = omega (arith, c.loop-i.invariant.taken, c.loop-i.auto.i-end, c.requires.lengths)

pub returns-in_err-note-clause-err : goal.returns-in_err-note-clause-err
returns-in_err-note-clause-err g c =
    passed_on _ c.from_residual.result _ c.from_residual.ensures
    (given_up_since g.met.T.Table.goes_on_then g.met.T.Table.fails_since c.loop-i.invariant.ok.ahead c.in_err-note.ensures.err)

pub returns-clause-ok : goal.returns-clause-ok
returns-clause-ok g c = c.loop-i.invariant.ok
