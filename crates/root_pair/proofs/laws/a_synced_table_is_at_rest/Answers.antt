use Rattle.root_pair.specs.lemmas.Rest.{synced_rests}
use Rattle.root_pair.proofs.laws.a_synced_table_is_at_rest.Goals as goal

pub returns : goal.returns
returns c = λ root shown holds all. synced_rests holds all
