use Rattle.session_lines.proofs.listings.begin.Goals as goal

pub returns-in-Ok-clause-begun : goal.returns-in-Ok-clause-begun
returns-in-Ok-clause-begun g c = (
  c.in_ok-listing.listing,
  c.in-Ok.ensures.items,
  c.in_ok-listing.ensures.ok.first,
  λ ready honest kept is. (c.in_ok-listing.ensures.ok.begun ready honest kept is, c.in_ok-listing.ensures.table ready honest kept is),
  λ other table there. (c.in_ok-listing.ensures.ok.others other table there).0,
)

pub returns-in-Ok-clause-all : goal.returns-in-Ok-clause-all
returns-in-Ok-clause-all g c = λ other table there. (c.in_ok-listing.ensures.ok.others other table there).1
