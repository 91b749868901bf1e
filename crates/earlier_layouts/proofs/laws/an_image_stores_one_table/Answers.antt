use Rattle.earlier_layouts.specs.lemmas.ReadLaws.{an_image_stores_one_table}
use Rattle.earlier_layouts.proofs.laws.an_image_stores_one_table.Goals as goal

pub returns : goal.returns
returns c = an_image_stores_one_table
