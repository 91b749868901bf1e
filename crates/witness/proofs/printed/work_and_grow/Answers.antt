use Rattle.sector_disk.specs.lemmas.Moments.{still_honest}
use Rattle.witness.proofs.Listings.{go_on_worked}
use Rattle.witness.proofs.printed.work_and_grow.Goals as goal

pub returns-clause-go_on : goal.returns-clause-go_on
returns-clause-go_on g c = λ ready honest.
    let (reply, turn) = c.in_ok-_status.ensures.done ready in
    let honest_mid = still_honest turn.turn.ahead.goes_on honest in
    go_on_worked g.F.GameFile.stores g.F.GameFile.state g.F.Versions.is_version g.F.Versions.are_two _ _ _ reply _ c.args.pages honest turn
    (c.grow-grown.ensures.growth (c.put_answer.ensures.left.ready ready))
    (λ other table there. g.met.F.Versions.version_lasts other table _ _ honest c.in_ok-_status.ensures.left.lasts there)
    (λ other table there. g.met.F.Versions.version_lasts other table _ _ honest_mid c.grow-grown.ensures.left.lasts there)
