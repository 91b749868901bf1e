use Rattle.certificate.specs.Lists.{Has}
use Rattle.certificate.proofs.StrategyLemmas.{delay_holds}
use Rattle.certificate.proofs.laws.a_delay_holds.Goals as goal

pub returns : goal.returns
returns g c = λ game w list x n m delay ranks wins. delay_holds (g.M.GameGraph.graph game) w (Has list) delay m n x ranks wins
