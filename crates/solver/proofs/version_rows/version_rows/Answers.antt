use Rattle.std.proofs.Common.{◌≡◌, ◌∙◌, sym, ap, ℕ, ◌+◌, List, length, min, arith}
use Rattle.std.proofs.lemmas.List.{length_push}
use Rattle.sector_disk.specs.lemmas.Moments.{still_honest}
use Rattle.retrograde.specs.declared.records.Counts.{Counts}
use Rattle.retrograde.specs.Stored.{view_of}
use Rattle.best_line.specs.declared.answers.Row.{Row}
use Rattle.best_line.specs.Values.{IsValue}
use Rattle.best_line.proofs.Exits.{nothing_at, so_many}
use Rattle.best_line.proofs.ListLemmas.{each_push}
use Rattle.solver.proofs.Rows.{below_end, not_damaged, rows_cause}
use Rattle.solver.proofs.Exits.{passed_on}
use Rattle.solver.proofs.version_rows.version_rows.Goals as goal

pub loop-number-init : goal.loop-number-init
loop-number-init g c = record {
  stays = g.met.F.Table.stays_here _;
  lengths = let none = ap (λ (rows : List Row). length rows) c.new-rows.ensures.items in omega arith;
  numbers = λ k row at. absurd (nothing_at c.new-rows.result.items c.new-rows.ensures.items k row at);
  values = λ honest table fits it k row at. absurd (nothing_at c.new-rows.result.items c.new-rows.ensures.items k row at);
}

pub loop-number-preserved : goal.loop-number-preserved
loop-number-preserved g c = record {
  stays = g.met.F.Table.stays_then _ _ _ c.loop-number.invariant.stays c.in_ok-kept.ensures.stays;
  lengths =
      let one : length c.push.new.self.items ≡ length c.loop-number.rows.items + 1 = ap
      (λ (rows : List Row). length rows) c.in_ok-push.ensures.items ∙ length_push c.loop-number.rows.items _ in
      omega (arith, c.loop-number.invariant.lengths);
  numbers =
      each_push (λ (k : ℕ) (row : Row). row.number ≡ c.args.from + k) c.loop-number.rows.items c.push.new.self.items
      (record { number = c.loop-number.number; value = c.value_of.result }) c.in_ok-push.ensures.items c.loop-number.invariant.numbers
      (sym c.loop-number.invariant.lengths);
  values = λ honest table fits it.
      let on = g.met.F.Table.stays_goes_on c.args.file.now c.loop-number.file c.loop-number.invariant.stays in
      let still = still_honest (g.met.F.GameFile.goes_ahead c.args.file.now c.loop-number.file on).goes_on honest in
      let here = g.met.F.Versions.version_lasts c.args.version.now table c.args.file.now c.loop-number.file honest (g.met.F.GameFile.goes_on_lasts _ _ on) it in
      let now = c.value_of.ensures table c.loop-number.number fits (c.in_ok-kept.ensures.record still table here) (c.counts_of-counts.ensures table it) in
      each_push (λ (k : ℕ) (row : Row). IsValue (view_of table) row.number row.value) c.loop-number.rows.items c.push.new.self.items
      (record { number = c.loop-number.number; value = c.value_of.result }) c.in_ok-push.ensures.items
      (c.loop-number.invariant.values honest table fits it) now;
}

pub returns-in_err-kept-clause-stays : goal.returns-in_err-kept-clause-stays
returns-in_err-kept-clause-stays g c = g.met.F.Table.stays_then _ _ _ c.loop-number.invariant.stays c.in_err-kept.ensures.stays

pub returns-in_err-kept-clause-cause : goal.returns-in_err-kept-clause-cause
returns-in_err-kept-clause-cause g c = λ whole.
    let old = c.args.file.now in
    let mid = c.loop-number.file in
    let asked = (g.met.F.GameFile.whole_stays old mid whole c.loop-number.invariant.stays).1 in
    passed_on _ c.from_residual.result _ c.from_residual.ensures
    (rows_cause (g.F.GameFile.state old) (g.F.GameFile.state mid)
    (g.F.GameFile.state c.record_of.new.self) c.in_err-kept.field-0.0 asked.ahead.failures asked.closed
    c.in_err-kept.ensures.fault)

pub returns-in_err-kept-clause-there : goal.returns-in_err-kept-clause-there
returns-in_err-kept-clause-there g c = λ honest table it.
    let old = c.args.file.now in
    let mid = c.loop-number.file in
    let on = g.met.F.Table.stays_goes_on old mid c.loop-number.invariant.stays in
    let still = still_honest (g.met.F.GameFile.goes_ahead old mid on).goes_on honest in
    let here = g.met.F.Versions.version_lasts c.args.version.now table old mid honest (g.met.F.GameFile.goes_on_lasts _ _ on) it in
    let low = below_end c.args.from c.min.result c.saturating_sub.result c.loop-number.number c.args.count c.counts_of-counts.result.known
    (length c.loop-number.rows.items)
    (length table.positions) c.loop-number-test.true c.min.ensures c.saturating_sub.ensures c.loop-number.invariant.lengths
    (ap (λ (k : Counts). k.known) (c.counts_of-counts.ensures table it)) in
    passed_on _ c.from_residual.result _ c.from_residual.ensures
    (not_damaged (g.F.GameFile.state mid) (g.F.GameFile.state c.record_of.new.self) c.in_err-kept.field-0.0 still (c.in_err-kept.ensures.cause table here low))

pub returns-in_err-push-clause-stays : goal.returns-in_err-push-clause-stays
returns-in_err-push-clause-stays g c = g.met.F.Table.stays_then _ _ _ c.loop-number.invariant.stays c.in_ok-kept.ensures.stays

pub returns-clause-rows : goal.returns-clause-rows
returns-clause-rows g c = λ honest table fits it. record {
  all = so_many c.args.from c.min.result (length c.loop-number.rows.items) c.loop-number.number c.counts_of-counts.result.known c.args.count
      (length table.positions)
      c.loop-number.invariant.lengths c.loop-number-test.false c.loop-number.auto.number-end
      (c.min.ensures ∙ ap (λ (n : ℕ). min c.args.count n) c.saturating_sub.ensures) (ap (λ (k : Counts). k.known) (c.counts_of-counts.ensures table it));
  numbers = c.loop-number.invariant.numbers;
  values = c.loop-number.invariant.values honest table fits it;
}

pub returns-clause-fits : goal.returns-clause-fits
returns-clause-fits g c = omega (arith, c.loop-number.invariant.lengths)

pub returns-clause-stays : goal.returns-clause-stays
returns-clause-stays g c = c.loop-number.invariant.stays
