use Rattle.tree_file.specs.lemmas.Whole.{whole_stays}
use Rattle.tree_file.proofs.laws.a_question_leaves_all_as_it_is.Goals as goal

pub returns : goal.returns
returns c = whole_stays
