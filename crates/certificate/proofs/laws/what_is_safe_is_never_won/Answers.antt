use Rattle.certificate.specs.Lists.{Has}
use Rattle.certificate.specs.Strategies.{RanksFrom}
use Rattle.certificate.proofs.StrategyLemmas.{safe_is_never_won}
use Rattle.certificate.proofs.laws.what_is_safe_is_never_won.Goals as goal

pub returns : goal.returns
returns g c = λ game w list x n m safe here wins.
    safe_is_never_won (g.M.GameGraph.graph game) w (RanksFrom (Has list) n) safe m x here wins
