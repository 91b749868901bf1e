use Rattle.solver.proofs.Prefixes.{what_may_be_done_is_sound}
use Rattle.solver.proofs.laws.what_may_be_done_is_sound.Goals as goal

pub returns : goal.returns
returns c = what_may_be_done_is_sound
