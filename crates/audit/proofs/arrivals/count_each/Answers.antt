use Rattle.std.proofs.Common.{◌≡◌, ◌∙◌, subst, ℕ, List, true, arith, refl}
use Rattle.std.proofs.lemmas.List.{length-map}
use Rattle.arrayvec.specs.ArrayVec.{ArrayVec}
use Rattle.retrograde.specs.View.{HasNumber}
use Rattle.retrograde.specs.Stored.{Stored, IsTable, view_of}
use Rattle.table.specs.Memory.{bytes_of_each}
use Rattle.audit.specs.lemmas.Edges.{CountsIf}
use Rattle.audit.proofs.Exits.{fault_since}
use Rattle.audit.proofs.ArrivalLemmas.{counted_none, counted_next, counted_all}
use Rattle.audit.proofs.Lists.{item_at}
use Rattle.table.proofs.Frames.{unread, read_then}
use Rattle.audit.proofs.arrivals.count_each.Goals as goal

pub loop-position-init : goal.loop-position-init
loop-position-init g c = record {
  lengths = refl;
  read = unread g.met.T.Table.stays_here _;
  counted = λ honest table differ i x at. counted_none (bytes_of_each c.args.positions.now) x
      ((g.T.Table.stored c.args.table.now).has_edge i c.args.from ≡ true) c.args.arrivals.now.items i;
}

pub loop-position-preserved : goal.loop-position-preserved
loop-position-preserved g c = record {
  lengths = c.in_ok-count_one.ensures.lengths ∙ c.loop-position.invariant.lengths;
  read = read_then g.met.T.Table.stays_then c.loop-position.invariant.read c.in_ok-count_one.ensures.read;
  counted = λ honest table differ i x at.
      let h = c.loop-position.invariant.read.honest.0 honest in
      let stored = g.T.Table.stored c.args.table.now in
      let y = c.position-item.result.items in
      let y_at = item_at (λ (p : ArrayVec ℕ).
      p.items) c.args.positions.now c.loop-position.position-index c.position-item.result c.loop-position-test.true c.position-item.is in
      let now = subst (λ (t : Stored (List ℕ)). IsTable t → (j : ℕ) (z : List ℕ) → HasNumber (view_of t) j z
      → CountsIf ((z ≡ y) × (t.has_edge j c.args.from ≡ true)) c.loop-position.arrivals.items c.count_one.new.arrivals.items j)
      (c.loop-position.invariant.read.same honest) (c.in_ok-count_one.ensures.counted h) in
      counted_next (bytes_of_each c.args.positions.now) x (stored.has_edge i c.args.from ≡ true) c.args.arrivals.now.items i c.loop-position.position-index y
      c.loop-position.arrivals.items c.count_one.new.arrivals.items differ y_at
      (c.loop-position.invariant.counted honest table differ i x at) (now table i x at);
}

pub returns-clause-counted : goal.returns-clause-counted
returns-clause-counted g c = λ honest table differ i x at.
    let few = length-map c.args.positions.now (λ (p : ArrayVec ℕ). p.items) in
    counted_all (bytes_of_each c.args.positions.now) x ((g.T.Table.stored c.args.table.now).has_edge i c.args.from ≡ true) c.args.arrivals.now.items i
    c.loop-position.position-index c.loop-position.arrivals.items (omega (arith, few, c.loop-position-test.false))
    (c.loop-position.invariant.counted honest table differ i x at)

pub returns-in_err-count_one-clause-read : goal.returns-in_err-count_one-clause-read
returns-in_err-count_one-clause-read g c = read_then g.met.T.Table.stays_then c.loop-position.invariant.read c.in_err-count_one.ensures.read

pub returns-in_err-count_one-clause-fault : goal.returns-in_err-count_one-clause-fault
returns-in_err-count_one-clause-fault g c = fault_since g.met.T.Table.stays_goes_on g.met.T.Table.fails_since
    c.loop-position.invariant.read c.from_residual.result c.from_residual.ensures c.in_err-count_one.ensures.fault
