use Rattle.legal_moves.specs.declared.fault.MoveFault.{MoveFault}
use Rattle.table.proofs.Exits.{passed_on}
use Rattle.audit.proofs.Exits.{of_search, of_table, table_since}
use Rattle.std.proofs.Common.{◌≡◌, ◌≢◌, ap, subst, ℕ, List, true, Err}
use Rattle.std.specs.Prelude.{AllPairs, Contains}
use Rattle.retrograde.specs.View.{HasNumber}
use Rattle.retrograde.specs.Stored.{Stored, IsTable, view_of}
use Rattle.table.specs.Memory.{bytes_of_each}
use Rattle.audit.specs.lemmas.Edges.{CountsIf}
use Rattle.audit.proofs.ArrivalLemmas.{counted_moves}
use Rattle.audit.proofs.MoveLemmas.{ascending_differ}
use Rattle.table.proofs.Frames.{read_then}
use Rattle.audit.proofs.arrivals.count_moves.Goals as goal

pub returns-clause-counted : goal.returns-clause-counted
returns-clause-counted g c = λ honest table within i x at.
    let h = c.in_ok-packed.ensures.read.honest.0 honest in
    let graph = g.M.GameGraph.graph c.args.source.now in
    let ys = bytes_of_each c.in_ok-found.found.items in
    let each = subst (λ (t : Stored (List ℕ)). IsTable t → AllPairs ◌≢◌ ys → (j : ℕ) (z : List ℕ) → HasNumber (view_of t) j z
    → CountsIf (Contains ys z × (t.has_edge j c.args.from ≡ true)) c.args.arrivals.now.items c.count_each.new.arrivals.items j)
    (c.in_ok-packed.ensures.read.same honest) (rw c.deref.ensures.value at c.in_ok-count_each.ensures.counted h) in
    counted_moves graph (g.T.Table.stored c.args.table.now) i c.args.from x c.in_ok-packed.packed.items ys c.args.arrivals.now.items c.count_each.new.arrivals.items
    (c.in_ok-packed.ensures.position honest) within c.in_ok-found.ensures.exact
    (each table (ascending_differ ys c.in_ok-found.ensures.exact.ascending) i x at)

pub returns-in_err-packed-clause-err : goal.returns-in_err-packed-clause-err
returns-in_err-packed-clause-err g c =
    passed_on _ c.from_residual.result _ c.from_residual.ensures (of_table c.in_err-packed.ensures.room c.in_err-packed.ensures.fault)

pub returns-in_err-found-clause-err : goal.returns-in_err-found-clause-err
returns-in_err-found-clause-err g c =
    passed_on _ c.from_residual-in_err-found.result _ c.from_residual-in_err-found.ensures
    (of_search _ (λ is honest within. (
      c.args.from,
      c.in_ok-packed.packed.items,
      c.in_ok-packed.ensures.position honest,
      within,
      c.in_err-found.ensures.wide (ap (λ (f : MoveFault). Err f) is),
    )))

pub returns-in_err-count_each-clause-read : goal.returns-in_err-count_each-clause-read
returns-in_err-count_each-clause-read g c = read_then g.met.T.Table.stays_then c.in_ok-packed.ensures.read c.in_err-count_each.ensures.read

pub returns-in_err-count_each-clause-err : goal.returns-in_err-count_each-clause-err
returns-in_err-count_each-clause-err g c = table_since g.met.T.Table.stays_goes_on g.met.T.Table.fails_since
    c.in_ok-packed.ensures.read
    _ c.from_residual-in_err-count_each.result c.from_residual-in_err-count_each.ensures c.in_err-count_each.ensures.room c.in_err-count_each.ensures.fault

pub returns-clause-read : goal.returns-clause-read
returns-clause-read g c = read_then g.met.T.Table.stays_then c.in_ok-packed.ensures.read c.in_ok-count_each.ensures.read
