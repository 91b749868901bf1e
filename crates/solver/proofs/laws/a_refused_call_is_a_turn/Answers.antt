use Rattle.solver.proofs.Turns.{refused_turn}
use Rattle.solver.proofs.laws.a_refused_call_is_a_turn.Goals as goal

pub returns : goal.returns
returns g c = λ command fault old new ahead refused shut. refused_turn g.F.GameFile.stores command old new ahead fault refused shut
