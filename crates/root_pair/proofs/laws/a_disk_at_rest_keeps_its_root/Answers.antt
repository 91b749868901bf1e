use Rattle.root_pair.specs.lemmas.Rest.{rest_leaves}
use Rattle.root_pair.proofs.laws.a_disk_at_rest_keeps_its_root.Goals as goal

pub returns : goal.returns
returns c = λ shown image rest left. rest_leaves shown rest image left
