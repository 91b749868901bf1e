use Rattle.std.proofs.Common.{◌≡◌, true}
use Rattle.earlier_layouts.proofs.Whole.{not_whole}
use Rattle.earlier_layouts.proofs.bytes.table_of.Goals as goal

pub returns-then-not-branch-clause-cause : goal.returns-then-not-branch-clause-cause
returns-then-not-branch-clause-cause c =
    not_whole c.args.sizes.now c.args.bytes.now _ _ c.in-Ok.ensures.spelled (λ whole.
    let yes : c.in_ok-is_whole.field-0 ≡ true = c.in_ok-is_whole.ensures.whole.1 whole in
    let told = c.if-not-branch.true in
    cc)
