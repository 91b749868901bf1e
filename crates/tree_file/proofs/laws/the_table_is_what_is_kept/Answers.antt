use Rattle.tree_file.specs.lemmas.Whole.{whole_stored}
use Rattle.tree_file.proofs.laws.the_table_is_what_is_kept.Goals as goal

pub returns : goal.returns
returns c = whole_stored
