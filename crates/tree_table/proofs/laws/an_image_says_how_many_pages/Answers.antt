use Rattle.tree_table.specs.lemmas.OneTable.{an_image_says_its_pages}
use Rattle.tree_table.proofs.laws.an_image_says_how_many_pages.Goals as goal

pub returns : goal.returns
returns c = an_image_says_its_pages
