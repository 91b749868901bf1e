use Rattle.solver.proofs.Prefixes.{what_sittings_lead_to_is_sound}
use Rattle.solver.proofs.laws.what_sittings_lead_to_is_sound.Goals as goal

pub returns : goal.returns
returns c = what_sittings_lead_to_is_sound
