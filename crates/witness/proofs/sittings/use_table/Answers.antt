use Rattle.std.proofs.Common.{sym, subst}
use Rattle.witness.specs.lemmas.Sittings.{IsBehindSittings}
use Rattle.witness.proofs.Behind.{behind_sitting, behind_no_sitting}
use Rattle.witness.proofs.Told.{opened_again}
use Rattle.witness.proofs.sittings.use_table.Goals as goal

pub returns-in-Ok-open-clause-used : goal.returns-in-Ok-open-clause-used
returns-in-Ok-open-clause-used g c =
    let opened = c.in-Ok-open.ensures.ok.opened in
    let table = opened_again g.F.GameFile.stores _ _ _ c.requires c.the_headline.ensures c.what_sittings_lead_to_is_sound.ensures opened in
    let ends = c.use_solver.ensures.used c.in-Ok-open.ensures.ok.ready table.sound table.is_open table.honest in
    subst (IsBehindSittings g.F.GameFile.stores) (sym c.close.ensures.disk)
    (behind_sitting g.F.GameFile.stores _ _ _ _ c.requires opened c.use_solver.ensures.ahead ends)

pub returns-in-Err-clause-used : goal.returns-in-Err-clause-used
returns-in-Err-clause-used g c = behind_no_sitting g.F.GameFile.stores _ _ _ _ c.requires c.in-Err.ensures.err.refused
