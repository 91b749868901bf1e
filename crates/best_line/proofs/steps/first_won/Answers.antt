use Rattle.std.proofs.Common.{◌≡◌, ◌∙◌, sym, ◌<◌, ap, subst, ℕ, List, Some, IfSome, arith}
use Rattle.std.specs.Prelude.{IfNone}
use Rattle.std.proofs.lemmas.List.{length-map}
use Rattle.std.proofs.lemmas.Option.{slice_get-get_or}
use Rattle.arrayvec.specs.ArrayVec.{ArrayVec}
use Rattle.table.specs.Memory.{bytes_of_each}
use Rattle.retrograde.specs.View.{HasNumber, HasValue}
use Rattle.retrograde.specs.declared.records.Counts.{Counts}
use Rattle.retrograde.specs.Stored.{Stored, IsTable, view_of}
use Rattle.best_line.proofs.Exits.{not_both, some_here}
use Rattle.best_line.proofs.ListLemmas.{item_at, found_first, pass_on, none_here}
use Rattle.table.proofs.Frames.{unread, read_then}
use Rattle.best_line.proofs.steps.first_won.Goals as goal

pub returns-then-is_some-clause-found : goal.returns-then-is_some-clause-found
returns-then-is_some-clause-found g c = λ honest table.
    let h = c.loop-position.invariant.read.honest.0 honest in
    let y = c.position-item.result.items in
    let at = item_at (λ (p : ArrayVec ℕ).
    p.items) c.args.positions.now c.loop-position.position-index c.position-item.result c.loop-position-test.true c.position-item.is in
    let here = subst (λ (t : Stored (List ℕ)). IfSome c.in_ok-found.found
    (λ j. HasNumber (view_of t) j y × ((view_of t).value j ≡ Some (c.args.winner, c.args.distance))))
    (c.loop-position.invariant.read.same honest) (c.in_ok-found.ensures.found h) in
    found_first (view_of (g.T.Table.stored c.args.table.now))
    (bytes_of_each c.args.positions.now) c.args.winner c.args.distance c.loop-position.position-index y at
    (c.loop-position.invariant.passed honest table) c.in_ok-found.found here

pub loop-position-preserved : goal.loop-position-preserved
loop-position-preserved g c = record {
  read = read_then g.met.T.Table.stays_then c.loop-position.invariant.read c.in_ok-found.ensures.read;
  passed = λ honest table.
      let h = c.loop-position.invariant.read.honest.0 honest in
      let same = c.loop-position.invariant.read.same honest in
      let y = c.position-item.result.items in
      let at = item_at (λ (p : ArrayVec ℕ).
      p.items) c.args.positions.now c.loop-position.position-index c.position-item.result c.loop-position-test.true c.position-item.is in
      let table' = subst (λ (t : Stored (List ℕ)). IsTable t) (sym same) table in
      let here = subst (λ (t : Stored (List ℕ)). IfNone c.in_ok-found.found (HasValue (view_of t) y c.args.winner c.args.distance → ⊥)) same
      (c.in_ok-found.ensures.none h table') in
      pass_on (view_of (g.T.Table.stored c.args.table.now))
      (bytes_of_each c.args.positions.now) c.args.winner c.args.distance c.loop-position.position-index y at
      (c.loop-position.invariant.passed honest table)
      (none_here (HasValue (view_of (g.T.Table.stored c.args.table.now)) y c.args.winner c.args.distance → ⊥) c.in_ok-found.found
      (not_both _ (sym c.if-is_some.ensures)) here);
}

pub returns-clause-none : goal.returns-clause-none
returns-clause-none g c = λ honest table y (k, within, is) has.
    let few = length-map c.args.positions.now (λ (p : ArrayVec ℕ). p.items) in
    let at = slice_get-get_or (bytes_of_each c.args.positions.now) k y within ∙ ap (λ (z : List ℕ). Some z) is in
    c.loop-position.invariant.passed honest table k y (omega (arith, few, within, c.loop-position-test.false)) at has

pub loop-position-init : goal.loop-position-init
loop-position-init g c =
    record {
      read = unread g.met.T.Table.stays_here _;
      passed = λ h table k y less. absurd (omega (arith, less));
    }

pub returns-then-is_some-clause-read : goal.returns-then-is_some-clause-read
returns-then-is_some-clause-read g c = read_then g.met.T.Table.stays_then c.loop-position.invariant.read c.in_ok-found.ensures.read

pub returns-then-is_some-clause-none : goal.returns-then-is_some-clause-none
returns-then-is_some-clause-none g c =
    λ honest table. some_here _ c.in_ok-found.found (sym c.is_some.ensures ∙ c.if-is_some.true)

pub returns-then-is_some-clause-within : goal.returns-then-is_some-clause-within
returns-then-is_some-clause-within g c =
    subst (λ (k : Counts). IfSome c.in_ok-found.found (λ i. i < k.known)) c.loop-position.invariant.read.counts c.in_ok-found.ensures.within
