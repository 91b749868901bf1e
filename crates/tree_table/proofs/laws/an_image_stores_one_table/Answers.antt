use Rattle.tree_table.specs.lemmas.OneTable.{an_image_stores_one_tree_table}
use Rattle.tree_table.proofs.laws.an_image_stores_one_table.Goals as goal

pub returns : goal.returns
returns c = an_image_stores_one_tree_table
