use Rattle.witness.proofs.Listings.{begun_so, status_zero}
use Rattle.witness.proofs.printed.begin.Goals as goal

pub returns-clause-begun : goal.returns-clause-begun
returns-clause-begun g c = λ ready honest kept is done.
    let (text, replied, written) = c.in_ok-status.ensures.replied ready honest in
    begun_so g.F.GameFile.stores g.F.GameFile.state g.F.Versions.is_version g.F.Versions.are_two _ _ _ _ _ c.in_ok-status.status text kept honest is
    (c.put_listing.ensures.asked ready honest) (status_zero c.in_ok-status.status done) replied
