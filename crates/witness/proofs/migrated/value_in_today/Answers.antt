use Rattle.std.proofs.Common.{ℕ, sym, subst}
use Rattle.sector_disk.specs.Disk.{Grew}
use Rattle.solver.specs.Solvers.{state}
use Rattle.witness.specs.Sittings.{IsWantOfRoom}
use Rattle.witness.proofs.Migrations.{opened_so, not_opened_for}
use Rattle.witness.proofs.WantOfRoom.{want_since}
use Rattle.witness.proofs.migrated.value_in_today.Goals as goal

pub value_of_finished-value-requires-clause-table : goal.value_of_finished-value-requires-clause-table
value_of_finished-value-requires-clause-table c = opened_so _ c.requires c.the_headline_of_found_tables.ensures _ _ c.in-Ok.ensures.ok.opened

pub returns-in-Err-value-clause-fault : goal.returns-in-Err-value-clause-fault
returns-in-Err-value-clause-fault c =
    let want = want_since c.args.disk.failures _
    (state c.value_of_finished-value.new.solver).failures c.in-Err-value.fault c.in-Ok.ensures.ok.opened.from.failures
    c.in-Err-value.ensures.fault in
    subst (λ (n : ℕ). IsWantOfRoom (Grew c.args.disk.failures n) c.in-Err-value.fault) (sym c.close-disk.ensures.failures) want

pub returns-in-Err-clause-fault : goal.returns-in-Err-clause-fault
returns-in-Err-clause-fault c = not_opened_for _ c.requires c.the_headline_of_found_tables.ensures _ _ c.in-Err.refused.fault c.in-Err.ensures.err.cause
