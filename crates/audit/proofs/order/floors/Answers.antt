use Rattle.audit.proofs.Exits.{table_since}
use Rattle.std.proofs.Common.{◌≡◌, ◌<◌, sym, ap, subst, ℕ, List, Some, length, arith, slice_get, slice_set, ◌∙◌}
use Rattle.retrograde.specs.declared.records.Counts.{Counts}
use Rattle.retrograde.specs.Stored.{Stored, IsTable}
use Rattle.retrograde.proofs.Finished.{element}
use Rattle.audit.specs.lemmas.Conditions.{distance_at}
use Rattle.audit.proofs.FloorLemmas.{floors_step, distance_next}
use Rattle.table.proofs.Frames.{read_then}
use Rattle.audit.proofs.order.floors.Given as Given
use Rattle.audit.proofs.order.floors.Goals as goal

-- what was written at this place

place_here : (g : Given.Over) (c : goal.In_ok-last g) → g.T.Table.is_honest c.args.table.now → IsTable (g.T.Table.stored c.args.table.now)
    → (i : ℕ) × (slice_get (g.T.Table.stored c.args.table.now).order c.loop-place.place ≡ Some i)
    × ((c.in_ok-last.last ≡ distance_at (g.T.Table.stored c.args.table.now) (Some i)) × (i < length c.loop-place.floors.items)
    × (c.write_floor.new.floors.items ≡ slice_set c.loop-place.floors.items i c.loop-place.last))
place_here g c = λ honest table.
    let h = c.loop-place.invariant.read.honest.0 honest in
    let same = c.loop-place.invariant.read.same honest in
    let table' = subst (λ (t : Stored (List ℕ)). IsTable t) (sym same) table in
    let count = ap (λ (k : Counts). k.settled) (g.met.T.Table.counts_are c.args.table.now honest) in
    let read = ap (λ (k : Counts). k.settled) c.counts-counts.ensures in
    let (i, at) = element (g.T.Table.stored c.args.table.now).order c.loop-place.place (omega (arith, count, read, c.loop-place-test.true)) in
    let written = subst (λ (t : Stored (List ℕ)). (j : ℕ) → slice_get t.order c.loop-place.place ≡ Some j
    → (c.in_ok-last.last ≡ distance_at t (Some j)) × (j < length c.loop-place.floors.items)
    × (c.write_floor.new.floors.items ≡ slice_set c.loop-place.floors.items j c.loop-place.last)) same (c.in_ok-last.ensures.written h table') in
    (i, at, written i at)

pub loop-place-preserved : goal.loop-place-preserved
loop-place-preserved g c = record {
  lengths = c.in_ok-last.ensures.lengths ∙ c.loop-place.invariant.lengths;
  read = read_then g.met.T.Table.stays_then c.loop-place.invariant.read c.in_ok-last.ensures.read;
  last = λ honest table.
      let (i, at, (distance, _, _)) = place_here g c honest table in
      distance_next (g.T.Table.stored c.args.table.now) c.loop-place.place i c.in_ok-last.last at distance;
  floors = λ honest table.
      let (i, at, (_, within, written)) = place_here g c honest table in
      floors_step (g.T.Table.stored c.args.table.now) table c.loop-place.place i c.loop-place.last c.loop-place.floors.items c.write_floor.new.floors.items
      (c.loop-place.invariant.floors honest table) at (c.loop-place.invariant.last honest table) within written;
}

pub returns-in_err-last-clause-read : goal.returns-in_err-last-clause-read
returns-in_err-last-clause-read g c = read_then g.met.T.Table.stays_then c.loop-place.invariant.read c.in_err-last.ensures.read

pub returns-in_err-last-clause-err : goal.returns-in_err-last-clause-err
returns-in_err-last-clause-err g c = table_since g.met.T.Table.stays_goes_on g.met.T.Table.fails_since
    c.loop-place.invariant.read _ c.from_residual-in_err-last.result c.from_residual-in_err-last.ensures c.in_err-last.ensures.room c.in_err-last.ensures.fault
