use Rattle.witness.proofs.Listings.{printed_so, status_zero}
use Rattle.witness.proofs.printed.print_next.Goals as goal

pub returns-clause-printed : goal.returns-clause-printed
returns-clause-printed g c = λ ready honest some table before version place is_table stands done.
    let (text, replied, written) = c.in_ok-status.ensures.replied ready honest in (
      text,
      printed_so g.F.GameFile.stores g.F.GameFile.state g.F.Versions.is_version g.F.Versions.are_two _ _ _ _ _ c.in_ok-status.status text table before
          version place stands c.a_listing_is_printed_as_it_was.ensures.told honest some is_table (c.put_listing.ensures.asked ready honest)
          (status_zero c.in_ok-status.status done) replied,
      written,
    )
