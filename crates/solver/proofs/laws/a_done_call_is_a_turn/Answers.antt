use Rattle.solver.proofs.Turns.{done_turn}
use Rattle.solver.proofs.Refusals.{apart}
use Rattle.solver.proofs.laws.a_done_call_is_a_turn.Goals as goal

pub returns : goal.returns
returns g c = λ command reply old new ahead done is_open. done_turn g.F.GameFile.stores command old new ahead reply done (λ shut. apart old.closed is_open shut)
