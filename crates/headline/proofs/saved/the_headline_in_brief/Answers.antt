use Rattle.headline.proofs.saved.the_headline_in_brief.Goals as goal

pub returns : goal.returns
returns g c = g.met.S.SavedTable.headline
