use Rattle.earlier_layouts.specs.lemmas.Laws.{tables_have_their_length}
use Rattle.earlier_layouts.proofs.image.laws.tables_have_their_length.Goals as goal

pub returns : goal.returns
returns c = tables_have_their_length
