use Rattle.audit.specs.Causes.{HasWide}
use Rattle.table.proofs.Exits.{passed_on}
use Rattle.audit.proofs.Exits.{since}
use Rattle.std.proofs.Common.{◌≡◌, ◌∙◌, ◌<◌, ◌^◌, suc, ap, subst, sym, ℕ, List, length, arith, refl}
use Rattle.std.proofs.lemmas.List.{length-replicate}
use Rattle.retrograde.specs.declared.records.Counts.{Counts}
use Rattle.retrograde.specs.View.{HasNumber}
use Rattle.retrograde.specs.Stored.{Stored, IsTable, view_of, expanded_count}
use Rattle.audit.specs.lemmas.Edges.{CountsIf, IsMoveEdge, AreArrivals}
use Rattle.audit.proofs.ArrivalLemmas.{expanded_known, no_arrivals, arrivals_next}
use Rattle.table.proofs.Frames.{unread, read_then}
use Rattle.audit.proofs.arrivals.arrivals.Goals as goal

pub loop-from-init : goal.loop-from-init
loop-from-init g c = record {
  source = refl;
  lengths = ap (λ (ns : List ℕ). length ns) (c.in_ok-arrivals.ensures.items_if_clones_equal (λ y is. is))
      ∙ (length-replicate {A = ℕ} c.counts-counts.result.known 0 ∙ ap (λ (k : Counts). k.known) c.counts-counts.ensures);
  read = unread g.met.T.Table.stays_here _;
  arrivals = λ honest table.
      let known : c.counts-counts.result.known ≡ length (g.T.Table.stored c.args.table.now).positions =
      ap (λ (k : Counts). k.known) (c.counts-counts.ensures ∙ g.met.T.Table.counts_are c.args.table.now honest) in
      no_arrivals (g.M.GameGraph.graph c.args.source.now) (g.T.Table.stored c.args.table.now) c.in_ok-arrivals.arrivals.items c.counts-counts.result.known known
      (c.in_ok-arrivals.ensures.items_if_clones_equal (λ y is. is));
}

pub loop-from-preserved : goal.loop-from-preserved
loop-from-preserved g c = record {
  source = refl;
  lengths = c.in_ok-count_moves.ensures.lengths ∙ c.loop-from.invariant.lengths;
  read = read_then g.met.T.Table.stays_then c.loop-from.invariant.read c.in_ok-count_moves.ensures.read;
  arrivals = λ honest table.
      let h = c.loop-from.invariant.read.honest.0 honest in
      let graph = g.M.GameGraph.graph c.args.source.now in
      let stored = g.T.Table.stored c.args.table.now in
      let same = c.loop-from.invariant.read.same honest in
      let count = ap (λ (k : Counts). k.expanded) (g.met.T.Table.counts_are c.args.table.now honest) in
      let read = ap (λ (k : Counts). k.expanded) c.counts-counts.ensures in
      let within : c.loop-from.from < expanded_count stored = omega (arith, count, read, c.min-from-end.ensures, c.loop-from-test.true) in
      let below : suc c.loop-from.from < 2 ^ 32 = omega (arith, c.loop-from-test.true, c.min-from-end.ensures) in
      let now = subst (λ (t : Stored (List ℕ)). IsTable t → c.loop-from.from < expanded_count t → (i : ℕ) (x : List ℕ) → HasNumber (view_of t) i x
      → CountsIf (IsMoveEdge graph t i x c.loop-from.from) c.loop-from.arrivals.items c.count_moves.new.arrivals.items i) same
      (c.in_ok-count_moves.ensures.counted h) in
      arrivals_next graph stored c.loop-from.from c.loop-from.arrivals.items c.count_moves.new.arrivals.items below
      (c.loop-from.invariant.arrivals honest table) (now table within);
}

pub returns-clause-arrivals : goal.returns-clause-arrivals
returns-clause-arrivals g c = λ honest table.
    let stored = g.T.Table.stored c.args.table.now in
    let count = g.met.T.Table.counts_are c.args.table.now honest in
    let expanded = ap (λ (k : Counts). k.expanded) count in
    let known = ap (λ (k : Counts). k.known) count in
    let expanded' = ap (λ (k : Counts). k.expanded) c.counts-counts.ensures in
    let known' = ap (λ (k : Counts). k.known) c.counts-counts.ensures in
    let few = expanded_known stored table in
    let all : c.loop-from.from ≡ expanded_count stored =
    omega (arith, expanded, known, expanded', known', few, c.min-from-end.ensures, c.loop-from-test.false, c.loop-from.auto.from-end) in
    subst (λ (p : ℕ). AreArrivals (g.M.GameGraph.graph c.args.source.now) stored p c.loop-from.arrivals.items) all (c.loop-from.invariant.arrivals honest table)

pub returns-in_err-count_moves-clause-err : goal.returns-in_err-count_moves-clause-err
returns-in_err-count_moves-clause-err g c =
    passed_on _ c.from_residual-in_err-count_moves.result _ c.from_residual-in_err-count_moves.ensures
    (since (λ wide honest.
    let h = c.loop-from.invariant.read.honest.0 honest in
    let same = c.loop-from.invariant.read.same honest in
    let count = ap (λ (k : Counts). k.expanded) (g.met.T.Table.counts_are c.args.table.now honest) in
    let read = ap (λ (k : Counts). k.expanded) c.counts-counts.ensures in
    let within : c.loop-from.from < expanded_count (g.T.Table.stored c.args.table.now) = omega
    (arith, count, read, c.min-from-end.ensures, c.loop-from-test.true) in
    let within' : c.loop-from.from < expanded_count (g.T.Table.stored c.loop-from.table) = subst
    (λ (t : Stored (List ℕ)). c.loop-from.from < expanded_count t) (sym same) within in
    subst (λ (t : Stored (List ℕ)). HasWide (g.M.GameGraph.is_wide c.args.source.now) t) same (wide h within'))
    (λ fault. g.met.T.Table.fails_since _ _ _ fault (g.met.T.Table.stays_goes_on _ _ c.loop-from.invariant.read.stays))
    c.in_err-count_moves.ensures.err)
