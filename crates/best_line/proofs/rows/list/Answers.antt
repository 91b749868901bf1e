use Rattle.std.proofs.Common.{◌≡◌, ◌∙◌, sym, ap, subst, ℕ, ◌+◌, ◌-◌, List, length, min, arith}
use Rattle.std.proofs.lemmas.List.{length_push}
use Rattle.retrograde.specs.declared.records.Counts.{Counts}
use Rattle.retrograde.specs.Stored.{Stored, IsTable, view_of}
use Rattle.best_line.specs.declared.answers.Row.{Row}
use Rattle.best_line.specs.Values.{IsValue}
use Rattle.table.proofs.Frames.{unread, read_then}
use Rattle.best_line.proofs.Exits.{nothing_at, so_many, below_known}
use Rattle.best_line.proofs.ListLemmas.{each_push}
use Rattle.best_line.proofs.rows.list.Goals as goal

pub loop-number-preserved : goal.loop-number-preserved
loop-number-preserved g c = record {
  read = read_then g.met.T.Table.stays_then c.loop-number.invariant.read c.in_ok-value.ensures.read;
  lengths =
      let one : length c.push.new.self.items ≡ length c.loop-number.rows.items + 1 = ap
      (λ (rows : List Row). length rows) c.in_ok-push.ensures.items ∙ length_push c.loop-number.rows.items _ in
      omega (arith, c.loop-number.invariant.lengths);
  numbers =
      each_push (λ (k : ℕ) (row : Row). row.number ≡ c.args.from + k) c.loop-number.rows.items c.push.new.self.items
      (record { number = c.loop-number.number; value = c.in_ok-value.value }) c.in_ok-push.ensures.items c.loop-number.invariant.numbers
      (sym c.loop-number.invariant.lengths);
  values = λ honest table.
      let h = c.loop-number.invariant.read.honest.0 honest in
      let same = c.loop-number.invariant.read.same honest in
      let table' = subst (λ (t : Stored (List ℕ)). IsTable t) (sym same) table in
      let now = subst (λ (t : Stored (List ℕ)). IsValue (view_of t) c.loop-number.number c.in_ok-value.value) same (c.in_ok-value.ensures.value h table') in
      each_push (λ (k : ℕ) (row : Row). IsValue
      (view_of (g.T.Table.stored c.args.table.now)) row.number row.value) c.loop-number.rows.items c.push.new.self.items
      (record { number = c.loop-number.number; value = c.in_ok-value.value }) c.in_ok-push.ensures.items (c.loop-number.invariant.values honest table) now;
}

pub loop-number-init : goal.loop-number-init
loop-number-init g c =
    record {
      read = unread g.met.T.Table.stays_here _;
      lengths = let none = ap (λ (rows : List Row). length rows) c.new-rows.ensures.items in omega arith;
      numbers = λ k row at. absurd (nothing_at c.new-rows.result.items c.new-rows.ensures.items k row at);
      values = λ h table k row at. absurd (nothing_at c.new-rows.result.items c.new-rows.ensures.items k row at);
    }

pub returns-clause-rows : goal.returns-clause-rows
returns-clause-rows g c =
    λ honest table. record {
      all =
          subst (λ (n : ℕ). length c.loop-number.rows.items ≡ min c.args.count (n - c.args.from))
          (ap (λ (k : Counts). k.known) (g.met.T.Table.counts_are _ honest))
          (so_many c.args.from c.min.result (length c.loop-number.rows.items) c.loop-number.number c.counts.result.known c.args.count _
          c.loop-number.invariant.lengths c.loop-number-test.false c.loop-number.auto.number-end c.min.ensures (ap (λ (k : Counts). k.known) c.counts.ensures));
      numbers = c.loop-number.invariant.numbers;
      values = c.loop-number.invariant.values honest table;
    }

pub returns-clause-lengths : goal.returns-clause-lengths
returns-clause-lengths g c =
    so_many c.args.from c.min.result (length c.loop-number.rows.items) c.loop-number.number c.counts.result.known c.args.count _
    c.loop-number.invariant.lengths c.loop-number-test.false c.loop-number.auto.number-end c.min.ensures (ap (λ (k : Counts). k.known) c.counts.ensures)

pub value-requires : goal.value-requires
value-requires g c =
    below_known c.args.from c.min.result c.loop-number.number c.args.count c.counts.result.known _ _ c.loop-number-test.true c.min.ensures
    (ap (λ (k : Counts). k.known) c.counts.ensures) c.requires.from (ap (λ (k : Counts). k.known) c.loop-number.invariant.read.counts)
