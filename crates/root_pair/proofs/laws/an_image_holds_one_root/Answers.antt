use Rattle.std.proofs.Common.{sym, ◌∙◌}
use Rattle.root_pair.proofs.laws.an_image_holds_one_root.Goals as goal

pub returns : goal.returns
returns c = λ first second image a b. sym a.is ∙ b.is
