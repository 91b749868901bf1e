use Rattle.certificate.specs.Lists.{Has}
use Rattle.certificate.proofs.StrategyLemmas.{strategy_wins}
use Rattle.certificate.proofs.laws.a_strategy_wins.Goals as goal

pub returns : goal.returns
returns g c = λ game w list x n strategy ranks. strategy_wins (g.M.GameGraph.graph game) w (Has list) strategy n x ranks
