use Rattle.position_pack.proofs.BitLemmas.{fits_width, width_least}
use Rattle.position_pack.proofs.laws.widths_are_fewest.Goals as goal

pub returns : goal.returns
returns c = λ most small. (fits_width most small, λ b lt. width_least most b lt)
