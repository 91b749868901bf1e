use Rattle.std.proofs.Common.{◌<◌, ℕ, List, sym, subst}
use Rattle.retrograde.specs.declared.records.Counts.{Counts}
use Rattle.retrograde.specs.Stored.{Stored, IsTable, view_of}
use Rattle.best_line.specs.Values.{IsValue}
use Rattle.table.proofs.Frames.{read_then}
use Rattle.best_line.proofs.told.told_of.Goals as goal

pub value-requires : goal.value-requires
value-requires g c = subst (λ (k : Counts). c.in-Some.number < k.known) (sym c.in_ok-number.ensures.read.counts)
    (rw c.in-Some.is at c.in_ok-number.ensures.within)

pub returns-clause-told : goal.returns-clause-told
returns-clause-told g c = λ honest table.
    let h = c.in_ok-number.ensures.read.honest.0 honest in
    let same = c.in_ok-number.ensures.read.same honest in
    let table' = subst (λ (t : Stored (List ℕ)). IsTable t) (sym same) table in (
      rw c.in-Some.is at c.in_ok-number.ensures.found honest,
      subst (λ (t : Stored (List ℕ)). IsValue (view_of t) c.in-Some.number c.in_ok-value.value) same (c.in_ok-value.ensures.value h table'),
    )

pub returns-clause-read : goal.returns-clause-read
returns-clause-read g c = read_then g.met.T.Table.stays_then c.in_ok-number.ensures.read c.in_ok-value.ensures.read
