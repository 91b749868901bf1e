use Rattle.std.proofs.Common.{ℕ, sym, subst}
use Rattle.sector_disk.specs.Disk.{Grew}
use Rattle.solver.specs.Solvers.{state}
use Rattle.witness.specs.Sittings.{IsWantOfRoom}
use Rattle.witness.proofs.Told.{reopened, not_reopened}
use Rattle.witness.proofs.WantOfRoom.{want_since}
use Rattle.witness.proofs.sittings.value_of.Goals as goal

pub answer-value-requires-clause-table : goal.answer-value-requires-clause-table
answer-value-requires-clause-table g c =
    reopened g.F.GameFile.stores _ _ _ c.requires c.the_headline.ensures c.what_sittings_lead_to_is_sound.ensures c.in-Ok.ensures.ok.opened

pub returns-in-Err-value-clause-fault : goal.returns-in-Err-value-clause-fault
returns-in-Err-value-clause-fault g c =
    let first = g.F.Device.SectorDisk.failures c.args.found in
    let want = want_since first _ (state c.answer-value.new.solver).failures c.in-Err-value.fault c.in-Ok.ensures.ok.opened.from.failures
    c.in-Err-value.ensures.fault in
    subst (λ (n : ℕ). IsWantOfRoom (Grew first n) c.in-Err-value.fault) (sym c.close-disk.ensures.failures) want

pub returns-in-Err-clause-fault : goal.returns-in-Err-clause-fault
returns-in-Err-clause-fault g c = not_reopened g.F.GameFile.stores _ _ _ c.in-Err.refused.fault c.requires c.the_headline.ensures c.in-Err.ensures.err.cause
