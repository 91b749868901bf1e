use Rattle.tree_file.specs.lemmas.Whole.{whole_leaves}
use Rattle.tree_file.proofs.laws.a_stop_leaves_what_is_kept.Goals as goal

pub returns : goal.returns
returns c = whole_leaves
