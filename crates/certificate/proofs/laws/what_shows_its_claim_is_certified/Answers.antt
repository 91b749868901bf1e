use Rattle.certificate.proofs.RightLemmas.{is_certified}
use Rattle.certificate.proofs.laws.what_shows_its_claim_is_certified.Goals as goal

pub returns : goal.returns
returns c = λ certificate given status written shows. is_certified certificate given shows status written
