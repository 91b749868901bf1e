use Rattle.std.proofs.Common.{◌≡◌, ◌∙◌, sym, ap, subst, ℕ, suc, ◌+◌, ◌-◌, ◌<◌, List, [], ◌∷◌, ◌++◌, Some, refl, arith}
use Rattle.retrograde.specs.declared.records.Counts.{Counts}
use Rattle.retrograde.specs.Stored.{Stored, IsTable, view_of}
use Rattle.retrograde.proofs.Additions.{push_before}
use Rattle.retrograde.proofs.Finished.{is_some_at}
use Rattle.best_line.specs.Lines.{IsBestStep, IsLineTo, HasNoStep, LineComesTo}
use Rattle.table.proofs.Exits.{passed_on}
use Rattle.best_line.proofs.Exits.{line_of_memory, of_table_after}
use Rattle.best_line.proofs.LineLemmas.{line_value, line_push, line_done}
use Rattle.best_line.proofs.StepLemmas.{step_cause, step_stops}
use Rattle.table.proofs.Frames.{unread, read_then}
use Rattle.best_line.proofs.lines.follow.Goals as goal

pub returns-in_err-at-clause-err : goal.returns-in_err-at-clause-err
returns-in_err-at-clause-err g c =
    passed_on _ c.from_residual-in_err-at.result _ c.from_residual-in_err-at.ensures
    (record {
      cause = λ honest sound value.
          let h = c.loop-step.invariant.read.honest.0 honest in
          let same = c.loop-step.invariant.read.same honest in
          let table' = subst (λ (t : Stored (List ℕ)). IsTable t) (sym same) sound.table in
          let graph = g.M.GameGraph.graph c.args.source.now in
          let stored = g.T.Table.stored c.args.table.now in
          let left = c.args.distance - c.loop-step.step - 1 in
          let one : c.args.distance - c.loop-step.step ≡ suc (c.args.distance - c.loop-step.step - 1) = omega (arith, c.loop-step-test.true) in
          let here = line_value graph (view_of stored) c.args.winner c.args.distance c.loop-step.numbers.items c.loop-step.at
          (c.args.distance - c.loop-step.step) (c.loop-step.invariant.line honest sound.table value) in
          let here' = subst (λ (l : ℕ). (view_of stored).value c.loop-step.at ≡ Some (c.args.winner, l)) one here in
          step_cause graph (g.M.GameGraph.is_wide c.args.source.now) stored sound c.args.winner c.args.number c.loop-step.at left
          (is_some_at ((view_of stored).value c.args.number) (c.args.winner, c.args.distance) value) here' c.in_err-at.field-0.0
          (λ is. subst (λ (t : Stored (List ℕ)). HasNoStep graph (view_of t) c.loop-step.at c.args.winner left) same (c.in_err-at.ensures.err.none is h table'))
          (λ is. rw same at c.in_err-at.ensures.err.wide is h)
          c.in_err-at.ensures.err.settled;
      stops = λ honest table value.
          let h = c.loop-step.invariant.read.honest.0 honest in
          let same = c.loop-step.invariant.read.same honest in
          let table' = subst (λ (t : Stored (List ℕ)). IsTable t) (sym same) table in
          let graph = g.M.GameGraph.graph c.args.source.now in
          let view = view_of (g.T.Table.stored c.args.table.now) in
          let left = c.args.distance - c.loop-step.step - 1 in
          let one : c.args.distance - c.loop-step.step ≡ suc (c.args.distance - c.loop-step.step - 1) = omega (arith, c.loop-step-test.true) in
          let comes : LineComesTo graph view c.args.number c.args.winner c.loop-step.at (suc left) = record {
            distance = c.args.distance;
            value = value;
            numbers = c.loop-step.numbers.items;
            begins = c.loop-step.invariant.begins;
            line = subst (λ (l : ℕ). IsLineTo graph view c.args.winner c.args.distance c.loop-step.numbers.items c.loop-step.at l) one
                (c.loop-step.invariant.line honest table value);
          } in
          step_stops graph (g.M.GameGraph.is_wide c.args.source.now) view c.args.winner c.args.number c.loop-step.at left comes c.in_err-at.field-0.0
          (λ is. subst (λ (t : Stored (List ℕ)). HasNoStep graph (view_of t) c.loop-step.at c.args.winner left) same (c.in_err-at.ensures.err.none is h table'))
          (λ is. rw same at c.in_err-at.ensures.err.wide is h)
          c.in_err-at.ensures.err.settled;
      settled = c.in_err-at.ensures.err.settled;
      room = c.in_err-at.ensures.err.room;
      fault = of_table_after _ _ _ (λ fault. g.met.T.Table.fails_since _ _ _ fault
          (g.met.T.Table.stays_goes_on _ _ c.loop-step.invariant.read.stays)) c.in_err-at.ensures.err.fault;
    })

pub returns-in_err-push-clause-err : goal.returns-in_err-push-clause-err
returns-in_err-push-clause-err g c =
    passed_on _ c.from_residual.result _ c.from_residual.ensures
    (line_of_memory
    (λ honest sound value. is_some_at ((view_of (g.T.Table.stored c.args.table.now)).value c.args.number) (c.args.winner, c.args.distance) value)
    (λ honest table value. tt))

pub returns-in_err-push-2-clause-err : goal.returns-in_err-push-2-clause-err
returns-in_err-push-2-clause-err g c =
    passed_on _ c.from_residual-in_err-push-2.result _ c.from_residual-in_err-push-2.ensures
    (line_of_memory
    (λ honest sound value. is_some_at ((view_of (g.T.Table.stored c.args.table.now)).value c.args.number) (c.args.winner, c.args.distance) value)
    (λ honest table value. tt))

pub loop-step-preserved : goal.loop-step-preserved
loop-step-preserved g c = record {
  read = read_then g.met.T.Table.stays_then c.loop-step.invariant.read c.in_ok-at.ensures.read;
  known = subst (λ (k : Counts). c.in_ok-at.at < k.known) c.loop-step.invariant.read.counts c.in_ok-at.ensures.within;
  source = refl;
  begins =
      let items : c.push-in-loop-step.new.self.items ≡ c.loop-step.numbers.items ++ c.in_ok-at.at ∷ [] = c.in_ok-push-2.ensures.items in
      rw items (push_before c.loop-step.numbers.items c.in_ok-at.at 0 c.args.number c.loop-step.invariant.begins);
  line = λ honest table value.
      let h = c.loop-step.invariant.read.honest.0 honest in
      let same = c.loop-step.invariant.read.same honest in
      let table' = subst (λ (t : Stored (List ℕ)). IsTable t) (sym same) table in
      let graph = g.M.GameGraph.graph c.args.source.now in
      let view = view_of (g.T.Table.stored c.args.table.now) in
      let left = c.args.distance - c.loop-step.step - 1 in
      let items : c.push-in-loop-step.new.self.items ≡ c.loop-step.numbers.items ++ c.in_ok-at.at ∷ [] = c.in_ok-push-2.ensures.items in
      let one : c.args.distance - c.loop-step.step ≡ suc (c.args.distance - c.loop-step.step - 1) = omega (arith, c.loop-step-test.true) in
      let less : c.args.distance - c.loop-step.step - 1 ≡ c.args.distance - (c.loop-step.step + 1) = omega arith in
      let line = subst (λ (l : ℕ). IsLineTo graph view c.args.winner c.args.distance c.loop-step.numbers.items c.loop-step.at l) one
      (c.loop-step.invariant.line honest table value) in
      let step = subst (λ (t : Stored (List ℕ)). IsBestStep graph (view_of t) c.loop-step.at c.args.winner left c.in_ok-at.at) same
      (c.in_ok-at.ensures.step h table') in
      let longer = line_push graph view c.args.winner c.args.distance c.loop-step.numbers.items c.loop-step.at left c.in_ok-at.at line step in
      subst (λ (l : ℕ). IsLineTo graph view c.args.winner c.args.distance c.push-in-loop-step.new.self.items c.in_ok-at.at l) less
      (subst (λ (ns : List ℕ). IsLineTo graph view c.args.winner c.args.distance ns c.in_ok-at.at left) (sym items) longer);
}

pub returns-clause-line : goal.returns-clause-line
returns-clause-line g c = λ honest table value.
    let graph = g.M.GameGraph.graph c.args.source.now in
    let view = view_of (g.T.Table.stored c.args.table.now) in
    let none : c.args.distance - c.loop-step.step ≡ 0 = omega (arith, c.loop-step-test.false) in
    line_done graph view c.args.winner c.args.distance c.loop-step.numbers.items c.loop-step.at
    (subst (λ (l : ℕ). IsLineTo graph view c.args.winner c.args.distance c.loop-step.numbers.items c.loop-step.at l) none
    (c.loop-step.invariant.line honest table value))

pub loop-step-init : goal.loop-step-init
loop-step-init g c =
    let items : c.push.new.self.items ≡ c.args.number ∷ [] = c.in_ok-push.ensures.items
    ∙ ap (λ (ns : List ℕ). ns ++ c.args.number ∷ []) c.new-numbers.ensures.items in
    record {
      known = c.requires.known;
      source = refl;
      read = unread g.met.T.Table.stays_here _;
      begins = rw items refl;
      line = λ honest table value.
          let all : c.args.distance ≡ c.args.distance - 0 = omega arith in
          subst (λ (ns : List ℕ). IsLineTo (g.M.GameGraph.graph c.args.source.now)
          (view_of (g.T.Table.stored c.args.table.now)) c.args.winner c.args.distance ns c.args.number (c.args.distance - 0))
          (sym items) (refl, all, value);
    }

pub next_on_line-requires-clause-known : goal.next_on_line-requires-clause-known
next_on_line-requires-clause-known g c =
    subst (λ (k : Counts). c.loop-step.at < k.known) (sym c.loop-step.invariant.read.counts) c.loop-step.invariant.known

pub returns-clause-begins : goal.returns-clause-begins
returns-clause-begins g c =
    c.loop-step.invariant.begins
