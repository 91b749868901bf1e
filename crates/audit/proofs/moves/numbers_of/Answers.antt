use Rattle.table.proofs.Exits.{passed_on}
use Rattle.audit.proofs.Exits.{of_memory, table_since}
use Rattle.std.proofs.Common.{◌≡◌, ◌<◌, ◌++◌, ◌∷◌, [], ap, subst, ℕ, List, Some, slice_get, arith, take}
use Rattle.arrayvec.specs.ArrayVec.{ArrayVec}
use Rattle.retrograde.specs.declared.records.Counts.{Counts}
use Rattle.retrograde.specs.Stored.{Stored}
use Rattle.table.specs.Memory.{bytes_of_each}
use Rattle.audit.proofs.Lists.{item_at, contains_at, take_at, zip_push, all_push}
use Rattle.table.proofs.Frames.{read_then}
use Rattle.audit.proofs.moves.numbers_of.Goals as goal

pub returns-in_default-clause-unknown : goal.returns-in_default-clause-unknown
returns-in_default-clause-unknown g c = λ honest.
    let h = c.loop-position.invariant.read.honest.0 honest in
    let y = c.position-item.result.items in
    let at = item_at (λ (p : ArrayVec ℕ).
    p.items) c.args.positions.now c.loop-position.position-index c.position-item.result c.loop-position-test.true c.position-item.is in
    let none = rw c.in_default.is at c.in_ok-number.ensures.unknown h in (
      y,
      contains_at (bytes_of_each c.args.positions.now) c.loop-position.position-index y at,
      subst (λ (t : Stored (List ℕ)). (j : ℕ) → slice_get t.positions j ≡ Some y → ⊥) (c.loop-position.invariant.read.same honest) none,
    )

pub loop-position-preserved : goal.loop-position-preserved
loop-position-preserved g c = record {
  within =
      let items : c.push.new.self.items ≡ c.loop-position.numbers.items ++ c.in-Some.number ∷ [] = c.in_ok-push.ensures.items in
      let few : c.in-Some.number < (g.T.Table.counted c.loop-position.table).known = rw c.in-Some.is at c.in_ok-number.ensures.within in
      let few' : c.in-Some.number < (g.T.Table.counted c.args.table.now).known = omega
      (arith, few, ap (λ (k : Counts). k.known) c.loop-position.invariant.read.counts) in
      rw items (all_push (λ j. j < (g.T.Table.counted c.args.table.now).known) c.loop-position.numbers.items c.in-Some.number c.loop-position.invariant.within few');
  read = read_then g.met.T.Table.stays_then c.loop-position.invariant.read c.in_ok-number.ensures.read;
  numbers = λ honest.
      let h = c.loop-position.invariant.read.honest.0 honest in
      let y = c.position-item.result.items in
      let items : c.push.new.self.items ≡ c.loop-position.numbers.items ++ c.in-Some.number ∷ [] = c.in_ok-push.ensures.items in
      let step = take_at (λ (p : ArrayVec ℕ).
      p.items) c.args.positions.now c.loop-position.position-index c.position-item.result c.loop-position-test.true c.position-item.is in
      let found = rw c.in-Some.is at c.in_ok-number.ensures.found h in
      let found' = subst (λ (t : Stored (List ℕ)). slice_get t.positions c.in-Some.number ≡ Some y) (c.loop-position.invariant.read.same honest) found in
      rw (step, items)
      (zip_push (λ z j. slice_get (g.T.Table.stored c.args.table.now).positions j ≡ Some z)
      (take c.loop-position.position-index (bytes_of_each c.args.positions.now))
      c.loop-position.numbers.items y c.in-Some.number (c.loop-position.invariant.numbers honest) found');
}

pub returns-in_err-number-clause-read : goal.returns-in_err-number-clause-read
returns-in_err-number-clause-read g c = read_then g.met.T.Table.stays_then c.loop-position.invariant.read c.in_err-number.ensures.read

pub returns-in_err-number-clause-err : goal.returns-in_err-number-clause-err
returns-in_err-number-clause-err g c = table_since g.met.T.Table.stays_goes_on g.met.T.Table.fails_since c.loop-position.invariant.read _ c.from_residual.result
    c.from_residual.ensures c.in_err-number.ensures.room c.in_err-number.ensures.fault

pub returns-in_default-clause-read : goal.returns-in_default-clause-read
returns-in_default-clause-read g c = read_then g.met.T.Table.stays_then c.loop-position.invariant.read c.in_ok-number.ensures.read

pub returns-in_err-push-clause-read : goal.returns-in_err-push-clause-read
returns-in_err-push-clause-read g c = read_then g.met.T.Table.stays_then c.loop-position.invariant.read c.in_ok-number.ensures.read

pub returns-in_err-push-clause-err : goal.returns-in_err-push-clause-err
returns-in_err-push-clause-err g c = passed_on _ c.from_residual-in_err-push.result _ c.from_residual-in_err-push.ensures of_memory
