use Rattle.position_pack.proofs.TellLemmas.{told}
use Rattle.position_pack.proofs.laws.texts_tell.Goals as goal

pub returns : goal.returns
returns c = λ game x y sound proper. told game sound proper x y
