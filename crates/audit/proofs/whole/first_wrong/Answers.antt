use Rattle.table.proofs.Exits.{passed_on}
use Rattle.audit.proofs.Exits.{cause_since}
use Rattle.std.proofs.Common.{◌<◌, ap, subst, rules, ℕ, List, Option, refl, length, get_or, arith}
use Rattle.std.proofs.lemmas.Option.{slice_get-get_or}
use Rattle.retrograde.specs.declared.records.Counts.{Counts}
use Rattle.retrograde.specs.View.{HasNumber}
use Rattle.retrograde.specs.Verdicts.{condition_of}
use Rattle.retrograde.specs.Stored.{Stored, IsTable, view_of, expanded_count}
use Rattle.audit.specs.lemmas.Conditions.{IsLowest, IsFloor}
use Rattle.audit.specs.lemmas.Edges.{IsArriving}
use Rattle.audit.proofs.ArrivalLemmas.{arriving_at}
use Rattle.audit.proofs.FloorLemmas.{floor_of}
use Rattle.audit.proofs.AnswerLemmas.{one_more, all_right, this_wrong}
use Rattle.table.proofs.Frames.{read_then}
use Rattle.audit.proofs.whole.first_wrong.Goals as goal

pub loop-number-preserved : goal.loop-number-preserved
loop-number-preserved g c = record {
  source = refl;
  read = read_then g.met.T.Table.stays_then c.loop-number.invariant.read c.in_ok-reason.ensures.read;
  sound = λ honest table floors arrivals.
      let h = c.loop-number.invariant.read.honest.0 honest in
      let same = c.loop-number.invariant.read.same honest in
      let graph = g.M.GameGraph.graph c.args.source.now in
      let IsWide = g.M.GameGraph.is_wide c.args.source.now in
      let stored = g.T.Table.stored c.args.table.now in
      let read = ap (λ (k : Counts). k.known) c.counts-number-end.ensures in
      let within : c.loop-number.number < length c.args.floors.now = omega (arith, read, c.requires.floors, c.loop-number-test.true) in
      let floor = floor_of stored c.args.floors.now c.loop-number.number (get_or c.args.floors.now c.loop-number.number 0) floors
      (slice_get-get_or c.args.floors.now c.loop-number.number 0 within) in
      let lowest = subst (λ (t : Stored (List ℕ)). IsTable t
      → IsFloor t c.loop-number.number (get_or c.args.floors.now c.loop-number.number 0) → (x : List ℕ) → HasNumber (view_of t) c.loop-number.number x
      → IsArriving graph t c.loop-number.number x (expanded_count t) (get_or c.args.arrivals.now c.loop-number.number 0)
      → IsLowest (condition_of graph t c.loop-number.number x) c.in_ok-reason.field-0) same (c.in_ok-reason.ensures.lowest h) in
      let narrow = subst (λ (t : Stored (List ℕ)). (x : List ℕ) → HasNumber (view_of t) c.loop-number.number x
      → c.loop-number.number < expanded_count t → IsWide x → ⊥)
      same (c.in_ok-reason.ensures.narrow h (search rules)) in
      one_more graph IsWide stored c.loop-number.number (c.loop-number.invariant.sound honest table floors arrivals)
      (λ x at. subst (λ (o : Option _). IsLowest (condition_of graph stored c.loop-number.number x) o) c.in_default.is
      (lowest table floor x at (arriving_at graph stored c.args.arrivals.now arrivals c.loop-number.number x at))) narrow;
}

pub returns-in-Some-clause-answer : goal.returns-in-Some-clause-answer
returns-in-Some-clause-answer g c = λ honest table floors arrivals.
    let h = c.loop-number.invariant.read.honest.0 honest in
    let same = c.loop-number.invariant.read.same honest in
    let graph = g.M.GameGraph.graph c.args.source.now in
    let IsWide = g.M.GameGraph.is_wide c.args.source.now in
    let stored = g.T.Table.stored c.args.table.now in
    let read = ap (λ (k : Counts). k.known) c.counts-number-end.ensures in
    let count = ap (λ (k : Counts). k.known) (g.met.T.Table.counts_are c.args.table.now honest) in
    let within : c.loop-number.number < length c.args.floors.now = omega (arith, read, c.requires.floors, c.loop-number-test.true) in
    let floor = floor_of stored c.args.floors.now c.loop-number.number (get_or c.args.floors.now c.loop-number.number 0) floors
    (slice_get-get_or c.args.floors.now c.loop-number.number 0 within) in
    let lowest = subst (λ (t : Stored (List ℕ)). IsTable t → IsFloor t c.loop-number.number
    (get_or c.args.floors.now c.loop-number.number 0) → (x : List ℕ) → HasNumber (view_of t) c.loop-number.number x
    → IsArriving graph t c.loop-number.number x (expanded_count t) (get_or c.args.arrivals.now c.loop-number.number 0)
    → IsLowest (condition_of graph t c.loop-number.number x) c.in_ok-reason.field-0) same (c.in_ok-reason.ensures.lowest h) in
    this_wrong graph IsWide stored c.loop-number.number c.in-Some.reason (omega (arith, read, count, c.loop-number-test.true))
    (c.loop-number.invariant.sound honest table floors arrivals)
    (λ x at. subst (λ (o : Option _). IsLowest (condition_of graph stored c.loop-number.number x) o) c.in-Some.is
    (lowest table floor x at (arriving_at graph stored c.args.arrivals.now arrivals c.loop-number.number x at)))

pub returns-clause-answer : goal.returns-clause-answer
returns-clause-answer g c = λ honest table floors arrivals.
    let read = ap (λ (k : Counts). k.known) c.counts-number-end.ensures in
    let count = ap (λ (k : Counts). k.known) (g.met.T.Table.counts_are c.args.table.now honest) in
    all_right (g.M.GameGraph.graph c.args.source.now) (g.M.GameGraph.is_wide c.args.source.now) (g.T.Table.stored c.args.table.now) c.loop-number.number
    (omega (arith, read, count, c.loop-number-test.false)) (c.loop-number.invariant.sound honest table floors arrivals)

pub returns-in_err-reason-clause-err : goal.returns-in_err-reason-clause-err
returns-in_err-reason-clause-err g c =
    passed_on _ c.from_residual.result _ c.from_residual.ensures
    (cause_since g.met.T.Table.stays_goes_on g.met.T.Table.fails_since c.loop-number.invariant.read c.in_err-reason.ensures.err)
