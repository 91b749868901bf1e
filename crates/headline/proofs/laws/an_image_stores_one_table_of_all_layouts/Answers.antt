use Rattle.headline.specs.lemmas.Migrations.{one_of_all}
use Rattle.headline.proofs.laws.an_image_stores_one_table_of_all_layouts.Goals as goal

pub returns : goal.returns
returns c = one_of_all
