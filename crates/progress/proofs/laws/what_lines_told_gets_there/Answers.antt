use Rattle.std.specs.Prelude.{◌*◌, ◌≤◌}
use Rattle.std.proofs.Common.{sym, subst}
use Rattle.progress.specs.Enough.{units_told}
use Rattle.progress.proofs.Work.{it_gets_there}
use Rattle.progress.proofs.laws.what_lines_told_gets_there.Goals as goal

pub returns : goal.returns
returns g c = λ told left image kept game n uses may holds is_read few many.
    let (sittings, same, headline) = c.what_lines_told_is_kept.ensures told left image uses may in
    it_gets_there g.F.GameFile.stores g.met.F.GameFile.stores_one sittings image kept game n headline holds is_read few
    (subst (λ t. 2 * n ≤ units_told t) (sym same) many)
