use Rattle.legal_moves.proofs.EffectLemmas.{Effect-functional, EffectAt-functional}
use Rattle.legal_moves.proofs.laws.actions_lead_to_one.Goals as goal

pub returns : goal.returns
returns c = λ game S T U. ((λ a. Effect-functional game a S T U), (λ e n k. EffectAt-functional game e n k S T U))
