use Rattle.std.proofs.Common.{◌≡◌, ◌-◌, length, min, arith}
use Rattle.solver.specs.Listings.{asked_in, rows_in}
use Rattle.solver.proofs.Listed.{all_listed}
use Rattle.solver.proofs.listing_laws.a_listing_gives_each_row_once.Goals as goal

pub returns : goal.returns
returns g c = λ version begun table given honest fits it listed.
    let rows = all_listed g.F.GameFile.state g.F.Versions.is_version version table fits given begun 0 honest it listed in
    (rows, λ enough. let all : length (rows_in given) ≡ min (asked_in given) (length table.positions - 0) = rows.all in omega (arith, all, enough))
