use Rattle.sector_disk.specs.lemmas.Moments.{still_honest}
use Rattle.solver.proofs.listing_laws.a_listing_lasts.Goals as goal

pub returns : goal.returns
returns g c = λ version old new ahead lasts table honest it.
    (still_honest ahead honest, g.met.F.Versions.version_lasts version table old new honest lasts it)
