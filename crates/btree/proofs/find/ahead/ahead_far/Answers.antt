use Rattle.std.proofs.Common.{inr, ℕ, List, sym, subst}
use Rattle.btree.specs.Page.{IsPage}
use Rattle.btree.proofs.find.ahead.ahead_far.Goals as goal

pub returns-in-None-clause-cause : goal.returns-in-None-clause-cause
returns-in-None-clause-cause g c = inr (λ honest kind is.
    c.in-None.ensures.none kind (subst (λ (b : List ℕ). IsPage c.args.widths kind b) (sym (c.in_ok-read_page.ensures.bytes honest)) is))
