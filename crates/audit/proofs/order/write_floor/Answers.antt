use Rattle.std.proofs.Common.{◌≡◌, ◌∙◌, ◌<◌, sym, ap, subst, ℕ, List, Option, Some, length, arith, slice_get, slice_set}
use Rattle.std.proofs.lemmas.Option.{same_Some}
use Rattle.retrograde.specs.declared.records.Counts.{Counts}
use Rattle.retrograde.specs.declared.records.Record.{Record}
use Rattle.retrograde.specs.Stored.{Stored}
use Rattle.audit.specs.lemmas.Conditions.{distance_in}
use Rattle.audit.proofs.Exits.{fault_since}
use Rattle.audit.proofs.FloorLemmas.{in_range}
use Rattle.table.proofs.Frames.{read_then}
use Rattle.audit.proofs.order.write_floor.Goals as goal

pub returns-clause-written : goal.returns-clause-written
returns-clause-written g c = λ honest table i at.
    let h = c.in_ok-number.ensures.read.honest.0 honest in
    let stored = g.T.Table.stored c.args.table.now in
    let same = same_Some c.in_ok-number.number i (sym (c.in_ok-number.ensures.number honest) ∙ at) in
    let record_is : slice_get stored.records c.in_ok-number.number ≡ Some c.in_ok-record.field-0 =
    subst (λ (t : Stored (List ℕ)). slice_get t.records c.in_ok-number.number ≡ Some c.in_ok-record.field-0)
    (c.in_ok-number.ensures.read.same honest) (c.in_ok-record.ensures.record h) in
    let there : slice_get stored.records i ≡ Some c.in_ok-record.field-0 = ap (λ (m : ℕ). slice_get stored.records m) (sym same) ∙ record_is in
    let count = ap (λ (k : Counts). k.known) (g.met.T.Table.counts_are c.args.table.now honest) in
    let within : i < length stored.positions = in_range stored table c.args.place i at in (
      sym (ap (λ (o : Option Record). distance_in o) there),
      omega (arith, count, within, c.requires.lengths),
      ap (λ (m : ℕ). slice_set c.args.floors.now.items m c.args.floor) same,
    )

pub returns-then-number-len-clause-written : goal.returns-then-number-len-clause-written
returns-then-number-len-clause-written g c = λ honest table i at.
    let same = same_Some c.in_ok-number.number i (sym (c.in_ok-number.ensures.number honest) ∙ at) in
    let count = ap (λ (k : Counts). k.known) (g.met.T.Table.counts_are c.args.table.now honest) in
    let within = in_range (g.T.Table.stored c.args.table.now) table c.args.place i at in
    absurd (omega (arith, same, count, within, c.requires.lengths, c.if-number-len.true))

pub returns-in_err-record-clause-read : goal.returns-in_err-record-clause-read
returns-in_err-record-clause-read g c = read_then g.met.T.Table.stays_then c.in_ok-number.ensures.read c.in_err-record.ensures.read

pub returns-in_err-record-clause-fault : goal.returns-in_err-record-clause-fault
returns-in_err-record-clause-fault g c = fault_since g.met.T.Table.stays_goes_on g.met.T.Table.fails_since
    c.in_ok-number.ensures.read c.from_residual-in_err-record.result c.from_residual-in_err-record.ensures c.in_err-record.ensures.fault

pub returns-clause-read : goal.returns-clause-read
returns-clause-read g c = read_then g.met.T.Table.stays_then c.in_ok-number.ensures.read c.in_ok-record.ensures.read
