use Rattle.progress.proofs.Work.{what_is_asked_is_done}
use Rattle.progress.proofs.laws.what_is_asked_is_done.Goals as goal

pub returns : goal.returns
returns c = what_is_asked_is_done
