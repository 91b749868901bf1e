use Rattle.table.proofs.Exits.{passed_on}
use Rattle.audit.proofs.Exits.{of_memory, table_since}
use Rattle.std.proofs.Common.{◌≡◌, ◌++◌, ◌∷◌, [], subst, ℕ, List, take, get_or}
use Rattle.std.proofs.lemmas.List.{take_more}
use Rattle.retrograde.specs.Stored.{Stored, HasRecord}
use Rattle.audit.proofs.Lists.{zip_push}
use Rattle.table.proofs.Frames.{read_then}
use Rattle.audit.proofs.moves.records_of.Goals as goal

pub loop-number-preserved : goal.loop-number-preserved
loop-number-preserved g c = record {
  read = read_then g.met.T.Table.stays_then c.loop-number.invariant.read c.in_ok-record.ensures.read;
  records = λ honest.
      let h = c.loop-number.invariant.read.honest.0 honest in
      let r = c.in_ok-record.field-0 in
      let items : c.push.new.self.items ≡ c.loop-number.records.items ++ r ∷ [] = c.in_ok-push.ensures.items in
      let step = take_more c.args.numbers.now c.loop-number.number-index 0 c.loop-number-test.true in
      let found = c.in_ok-record.ensures.record h in
      let found' = subst (λ (t : Stored (List ℕ)). HasRecord t (get_or c.args.numbers.now c.loop-number.number-index 0) r)
      (c.loop-number.invariant.read.same honest) found in
      rw (step, items)
      (zip_push (HasRecord (g.T.Table.stored c.args.table.now)) (take c.loop-number.number-index c.args.numbers.now)
      c.loop-number.records.items (get_or c.args.numbers.now c.loop-number.number-index 0) r (c.loop-number.invariant.records honest) found');
}

pub returns-in_err-record-clause-read : goal.returns-in_err-record-clause-read
returns-in_err-record-clause-read g c = read_then g.met.T.Table.stays_then c.loop-number.invariant.read c.in_err-record.ensures.read

pub returns-in_err-record-clause-err : goal.returns-in_err-record-clause-err
returns-in_err-record-clause-err g c = table_since g.met.T.Table.stays_goes_on g.met.T.Table.fails_since c.loop-number.invariant.read _ c.from_residual.result
    c.from_residual.ensures c.in_err-record.ensures.room c.in_err-record.ensures.fault

pub returns-in_err-push-clause-read : goal.returns-in_err-push-clause-read
returns-in_err-push-clause-read g c = read_then g.met.T.Table.stays_then c.loop-number.invariant.read c.in_ok-record.ensures.read

pub returns-in_err-push-clause-err : goal.returns-in_err-push-clause-err
returns-in_err-push-clause-err g c = passed_on _ c.from_residual-in_err-push.result _ c.from_residual-in_err-push.ensures of_memory
