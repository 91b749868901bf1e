use Rattle.certificate.proofs.RightLemmas.{is_accepted}
use Rattle.certificate.proofs.laws.what_is_acceptable_is_certified.Goals as goal

pub returns : goal.returns
returns c = λ certificate given status written here. is_accepted certificate given here.shows here.narrow status written
