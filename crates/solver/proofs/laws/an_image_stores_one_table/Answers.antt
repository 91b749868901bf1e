use Rattle.solver.proofs.laws.an_image_stores_one_table.Goals as goal

pub returns : goal.returns
returns g c = g.met.F.GameFile.stores_one
