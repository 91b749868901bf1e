use Rattle.table.proofs.Exits.{passed_on}
use Rattle.audit.proofs.Exits.{cause_since}
use Rattle.std.proofs.Common.{◌≡◌, ◌∙◌, ◌<◌, ap, subst, rules, ℕ, List, None, refl, true, eqb, length, slice_get, get_or, arith}
use Rattle.std.proofs.lemmas.Option.{slice_get-get_or}
use Rattle.retrograde.specs.declared.records.Counts.{Counts}
use Rattle.retrograde.specs.View.{HasNumber}
use Rattle.retrograde.specs.Stored.{Stored, IsTable, view_of, expanded_count, count_below}
use Rattle.audit.specs.lemmas.Conditions.{IsLowest, IsFloor, own_condition, successors_in}
use Rattle.audit.proofs.FloorLemmas.{floor_of}
use Rattle.audit.proofs.AnswerLemmas.{own_more}
use Rattle.audit.proofs.SumLemmas.{sum_more, sums_right}
use Rattle.table.proofs.Frames.{read_then}
use Rattle.audit.proofs.sums.adds_up.Goals as goal

pub returns-clause-right : goal.returns-clause-right
returns-clause-right g c = λ honest table floors is.
    let read = ap (λ (k : Counts). k.known) c.counts-number-end.ensures in
    let count = ap (λ (k : Counts). k.known) (g.met.T.Table.counts_are c.args.table.now honest) in
    let stored = g.T.Table.stored c.args.table.now in
    let all : c.loop-number.number ≡ length stored.positions = omega (arith, read, count, c.loop-number-test.false, c.loop-number.auto.number-end) in
    let same : eqb c.loop-number.moves c.loop-number.edges ≡ true = cc in
    sums_right (g.M.GameGraph.graph c.args.source.now) (g.M.GameGraph.is_wide c.args.source.now) stored table c.loop-number.number all
    (c.loop-number.invariant.sound honest table floors) c.loop-number.moves c.loop-number.edges (c.loop-number.invariant.moves honest)
    (c.loop-number.invariant.edges honest) same

pub loop-number-preserved : goal.loop-number-preserved
loop-number-preserved g c = record {
  source = refl;
  few_moves = search rules;
  few_edges = search rules;
  read = read_then g.met.T.Table.stays_then c.loop-number.invariant.read c.in_ok-tally.ensures.read;
  moves = λ honest.
      let h = c.loop-number.invariant.read.honest.0 honest in
      let one = (rw c.in-Some.is at c.in_ok-tally.ensures.tally h).moves in
      let one' = subst (λ (t : Stored (List ℕ)). c.in-Some.tally.moves ≡ successors_in (slice_get t.records c.loop-number.number))
      (c.loop-number.invariant.read.same honest) one in
      sum_more c.loop-number.number c.loop-number.moves c.from-moves.result (λ i. successors_in (slice_get (g.T.Table.stored c.args.table.now).records i))
      (c.loop-number.invariant.moves honest) (c.from-moves.ensures ∙ one');
  edges = λ honest.
      let h = c.loop-number.invariant.read.honest.0 honest in
      let one = (rw c.in-Some.is at c.in_ok-tally.ensures.tally h).edges in
      let one' = subst (λ (t : Stored (List ℕ)). c.in-Some.tally.edges ≡ count_below (length t.positions)
      (λ p. t.has_edge c.loop-number.number p)) (c.loop-number.invariant.read.same honest) one in
      sum_more c.loop-number.number c.loop-number.edges c.from-edges.result
      (λ i. count_below (length (g.T.Table.stored c.args.table.now).positions) (λ p. (g.T.Table.stored c.args.table.now).has_edge i p))
      (c.loop-number.invariant.edges honest) (c.from-edges.ensures ∙ one');
  sound = λ honest table floors.
      let h = c.loop-number.invariant.read.honest.0 honest in
      let same = c.loop-number.invariant.read.same honest in
      let graph = g.M.GameGraph.graph c.args.source.now in
      let IsWide = g.M.GameGraph.is_wide c.args.source.now in
      let stored = g.T.Table.stored c.args.table.now in
      let read = ap (λ (k : Counts). k.known) c.counts-number-end.ensures in
      let within : c.loop-number.number < length c.args.floors.now = omega (arith, read, c.requires.lengths, c.loop-number-test.true) in
      let floor = floor_of stored c.args.floors.now c.loop-number.number (get_or c.args.floors.now c.loop-number.number 0) floors
      (slice_get-get_or c.args.floors.now c.loop-number.number 0 within) in
      let holds = (rw c.in-Some.is at c.in_ok-tally.ensures.tally h).holds in
      let holds' = subst (λ (t : Stored (List ℕ)). IsTable t → IsFloor t c.loop-number.number (get_or c.args.floors.now c.loop-number.number 0)
      → (x : List ℕ) → HasNumber (view_of t) c.loop-number.number x → IsLowest (own_condition graph t c.loop-number.number x) None) same holds in
      let narrow = (rw c.in-Some.is at c.in_ok-tally.ensures.tally h).narrow in
      let narrow' = subst (λ (t : Stored (List ℕ)). (x : List ℕ) → HasNumber (view_of t) c.loop-number.number x
      → c.loop-number.number < expanded_count t → IsWide x → ⊥) same narrow in
      own_more graph IsWide stored c.loop-number.number (c.loop-number.invariant.sound honest table floors) (holds' table floor) narrow';
}

pub returns-in_err-tally-clause-err : goal.returns-in_err-tally-clause-err
returns-in_err-tally-clause-err g c =
    passed_on _ c.from_residual.result _ c.from_residual.ensures
    (cause_since g.met.T.Table.stays_goes_on g.met.T.Table.fails_since c.loop-number.invariant.read c.in_err-tally.ensures.err)
