use Rattle.sector_disk.specs.lemmas.Moments.{still_honest}
use Rattle.witness.proofs.Listings.{stands_behind, ended_so}
use Rattle.witness.proofs.printed.print_and_end.Goals as goal

pub returns-clause-ended : goal.returns-clause-ended
returns-clause-ended g c = λ ready honest some table before version place stands.
    let (first, told, out) = c.in_ok-_next.ensures.replied ready honest in
    let asked = c.put_listing.ensures.asked ready honest in
    let honest_mid = still_honest asked.ahead.goes_on honest in
    let ready_mid = c.put_listing.ensures.ready ready in
    let (second, ended, more) = c.in_ok-_end.ensures.replied ready_mid honest_mid in
    let (next, there, all) =
    stands_behind g.F.GameFile.stores g.F.GameFile.state g.F.Versions.is_version g.F.Versions.are_two _ _ _ _ _ c.in_ok-_next._next first table before
    version place stands told in
    ended_so g.F.GameFile.stores g.F.GameFile.state g.F.Versions.is_version g.F.Versions.are_two _ _ _ _ _ c.in_ok-_end._end second table before version
    next honest some asked (c.put_listing-2.ensures.asked ready_mid honest_mid) there all ended
