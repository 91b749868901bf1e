use Rattle.std.proofs.Common.{◌≡◌, sym, subst, List, ℕ, Some}
use Rattle.retrograde.specs.Sound.{IsLocallySound}
use Rattle.retrograde.specs.Stored.{Stored, IsTable, view_of}
use Rattle.std.specs.Prelude.{IfOk}
use Rattle.best_line.specs.Causes.{IsLineCause, LineStops}
use Rattle.best_line.specs.Lines.{IsBestLine}
use Rattle.table.proofs.Exits.{fault_then, passed_on}
use Rattle.best_line.proofs.Exits.{of_table_after}
use Rattle.best_line.proofs.LineLemmas.{answers_play, answers_told}
use Rattle.best_line.proofs.lines.line.Goals as goal

pub returns-in-Won-clause-line : goal.returns-in-Won-clause-line
returns-in-Won-clause-line g c = λ honest sound.
    let h = c.in_ok-winner.ensures.read.honest.0 honest in
    let same = c.in_ok-winner.ensures.read.same honest in
    let table' = subst (λ (t : Stored (List ℕ)). IsTable t) (sym same) sound.table in
    let graph = g.M.GameGraph.graph c.args.source.now in
    let stored = g.T.Table.stored c.args.table.now in
    let value = rw c.in-Won.is at c.in_ok-winner.ensures.value honest sound.table in
    let value' = subst (λ (t : Stored (List ℕ)). (view_of t).value c.args.number ≡ Some (c.in-Won.winner, c.in-Won.distance)) (sym same) value in
    let line = subst (λ (t : Stored (List ℕ)). IfOk c.follow.result
    (λ numbers. IsBestLine graph (view_of t) c.in-Won.winner c.in-Won.distance numbers.items)) same (c.follow.ensures.line h table' value') in
    answers_play graph (g.M.GameGraph.is_wide c.args.source.now) stored sound c.in-Won.winner c.in-Won.distance c.args.number value
    (λ v. v.items) c.follow.result line c.follow.ensures.begins

pub returns-in-Won-clause-told : goal.returns-in-Won-clause-told
returns-in-Won-clause-told g c = λ honest table.
    let h = c.in_ok-winner.ensures.read.honest.0 honest in
    let same = c.in_ok-winner.ensures.read.same honest in
    let table' = subst (λ (t : Stored (List ℕ)). IsTable t) (sym same) table in
    let graph = g.M.GameGraph.graph c.args.source.now in
    let view = view_of (g.T.Table.stored c.args.table.now) in
    let value = rw c.in-Won.is at c.in_ok-winner.ensures.value honest table in
    let value' = subst (λ (t : Stored (List ℕ)). (view_of t).value c.args.number ≡ Some (c.in-Won.winner, c.in-Won.distance)) (sym same) value in
    let line = subst (λ (t : Stored (List ℕ)). IfOk c.follow.result
    (λ numbers. IsBestLine graph (view_of t) c.in-Won.winner c.in-Won.distance numbers.items)) same (c.follow.ensures.line h table' value') in
    answers_told graph view c.in-Won.winner c.in-Won.distance c.args.number value (λ v. v.items) c.follow.result line c.follow.ensures.begins

pub returns-in_err-winner-clause-err : goal.returns-in_err-winner-clause-err
returns-in_err-winner-clause-err g c =
    passed_on _ c.from_residual.result _ c.from_residual.ensures
    (record { cause = λ honest sound. tt; stops = λ honest table. tt; room = c.in_err-winner.ensures.room; fault = c.in_err-winner.ensures.fault })

pub returns-in-Won-clause-err : goal.returns-in-Won-clause-err
returns-in-Won-clause-err g c =
    let read = c.in_ok-winner.ensures.read in
    let graph = g.M.GameGraph.graph c.args.source.now in
    let IsWide = g.M.GameGraph.is_wide c.args.source.now in
    let value : (honest : g.T.Table.is_honest c.args.table.now) → IsTable (g.T.Table.stored c.args.table.now)
    → (view_of (g.T.Table.stored c.value.new.table)).value c.args.number ≡ Some (c.in-Won.winner, c.in-Won.distance) =
    λ honest table. subst (λ (t : Stored (List ℕ)). (view_of t).value c.args.number ≡ Some (c.in-Won.winner, c.in-Won.distance))
    (sym (read.same honest)) (rw c.in-Won.is at c.in_ok-winner.ensures.value honest table) in
    fault_then c.follow.result
    (λ f why. record {
      cause = λ honest sound. subst (λ (t : Stored (List ℕ)). IsLineCause (view_of t) c.args.number f) (read.same honest)
          (why.cause (read.honest.0 honest) (subst (λ (t : Stored (List ℕ)). IsLocallySound graph IsWide t) (sym (read.same honest)) sound)
          (value honest sound.table));
      stops = λ honest table. subst (λ (t : Stored (List ℕ)). LineStops graph IsWide (view_of t) c.args.number f) (read.same honest)
          (why.stops (read.honest.0 honest) (subst (λ (t : Stored (List ℕ)). IsTable t) (sym (read.same honest)) table) (value honest table));
      room = why.room;
      fault = of_table_after _ _ f (λ told. g.met.T.Table.fails_since _ _ _ told (g.met.T.Table.stays_goes_on _ _ read.stays)) why.fault;
    }) c.follow.ensures.err
