use Rattle.std.proofs.Common.{refl}
use Rattle.session.proofs.MovesOnInput.{taken_none}
use Rattle.session.proofs.position_line.PositionLine.new.Goals as goal

pub returns : goal.returns
returns c = taken_none _ c.new.ensures.items refl
