use Rattle.headline.proofs.saved.the_table_of_a_sitting.Goals as goal

pub returns : goal.returns
returns g c = g.met.S.SavedTable.lawful
