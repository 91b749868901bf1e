use Rattle.std.proofs.Common.{sym, ap, subst, ℕ, ◌<◌, List, Err}
use Rattle.std.specs.Prelude.{Contains}
use Rattle.table.specs.Memory.{bytes_of_each}
use Rattle.retrograde.specs.View.{HasValue}
use Rattle.retrograde.specs.declared.records.Counts.{Counts}
use Rattle.retrograde.specs.Stored.{Stored, IsTable, view_of}
use Rattle.legal_moves.specs.declared.fault.MoveFault.{MoveFault}
use Rattle.best_line.specs.lemmas.Lines.{IsFirstWon}
use Rattle.table.proofs.Exits.{passed_on}
use Rattle.best_line.proofs.Exits.{no_step_there, step_of_search, step_of_table}
use Rattle.best_line.proofs.StepLemmas.{best_step, no_step}
use Rattle.table.proofs.Frames.{read_then}
use Rattle.best_line.proofs.steps.next_on_line.Goals as goal

pub returns-in-Some-clause-step : goal.returns-in-Some-clause-step
returns-in-Some-clause-step g c = λ honest table.
    let h = c.in_ok-packed.ensures.read.honest.0 honest in
    let same = c.in_ok-packed.ensures.read.same honest in
    let table' = subst (λ (t : Stored (List ℕ)). IsTable t) (sym same) table in
    let won = rw (c.in-Some.is, c.deref.ensures.value) at c.in_ok-next.ensures.found h table' in
    let won' = subst (λ (t : Stored (List ℕ)). IsFirstWon (view_of t)
    (bytes_of_each c.in_ok-found.found.items) c.args.winner c.args.distance c.in-Some.next) same won in
    best_step (g.M.GameGraph.graph c.args.source.now) (view_of (g.T.Table.stored c.args.table.now)) c.in_ok-packed.packed.items
    (bytes_of_each c.in_ok-found.found.items)
    c.in_ok-found.ensures.exact c.args.number (c.in_ok-packed.ensures.position honest) c.args.winner c.args.distance c.in-Some.next won'

pub returns-in-Some-clause-read : goal.returns-in-Some-clause-read
returns-in-Some-clause-read g c = read_then g.met.T.Table.stays_then c.in_ok-packed.ensures.read c.in_ok-next.ensures.read

pub returns-clause-read : goal.returns-clause-read
returns-clause-read g c = read_then g.met.T.Table.stays_then c.in_ok-packed.ensures.read c.in_ok-next.ensures.read

pub returns-in-Some-clause-within : goal.returns-in-Some-clause-within
returns-in-Some-clause-within g c =
    subst (λ (k : Counts). c.in-Some.next < k.known) c.in_ok-packed.ensures.read.counts (rw c.in-Some.is at c.in_ok-next.ensures.within)

pub returns-in_err-packed-clause-err : goal.returns-in_err-packed-clause-err
returns-in_err-packed-clause-err g c =
    passed_on _ c.from_residual.result _ c.from_residual.ensures (step_of_table c.in_err-packed.ensures.room c.in_err-packed.ensures.fault)

pub returns-in_err-found-clause-err : goal.returns-in_err-found-clause-err
returns-in_err-found-clause-err g c =
    passed_on _ c.from_residual-in_err-found.result _ c.from_residual-in_err-found.ensures
    (step_of_search _ (λ is honest. (
      c.in_ok-packed.packed.items,
      c.in_ok-packed.ensures.position honest,
      c.in_err-found.ensures.wide (ap (λ (f : MoveFault). Err f) is),
    )))

pub returns-in_err-next-clause-err : goal.returns-in_err-next-clause-err
returns-in_err-next-clause-err g c =
    passed_on _ c.from_residual-in_err-next.result _ c.from_residual-in_err-next.ensures
    (step_of_table c.in_err-next.ensures.err.room
    (g.met.T.Table.fails_since _ _ _ _ (g.met.T.Table.stays_goes_on _ _ c.in_ok-packed.ensures.read.stays) c.in_err-next.ensures.err.fault))

pub returns-clause-err : goal.returns-clause-err
returns-clause-err g c =
    no_step_there (λ honest table.
    let h = c.in_ok-packed.ensures.read.honest.0 honest in
    let same = c.in_ok-packed.ensures.read.same honest in
    let table' = subst (λ (t : Stored (List ℕ)). IsTable t) (sym same) table in
    let none = rw (c.in-None.is, c.deref.ensures.value) at c.in_ok-next.ensures.none h table' in
    let none' = subst (λ (t : Stored (List ℕ)). (y : List ℕ) → Contains (bytes_of_each c.in_ok-found.found.items) y
    → HasValue (view_of t) y c.args.winner c.args.distance → ⊥) same none in
    no_step (g.M.GameGraph.graph c.args.source.now) (view_of (g.T.Table.stored c.args.table.now)) c.in_ok-packed.packed.items
    (bytes_of_each c.in_ok-found.found.items)
    c.in_ok-found.ensures.exact c.args.number (c.in_ok-packed.ensures.position honest) c.args.winner c.args.distance none')
