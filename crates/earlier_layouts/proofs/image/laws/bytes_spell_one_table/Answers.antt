use Rattle.earlier_layouts.specs.lemmas.Laws.{bytes_spell_one_table}
use Rattle.earlier_layouts.proofs.image.laws.bytes_spell_one_table.Goals as goal

pub returns : goal.returns
returns c = bytes_spell_one_table
