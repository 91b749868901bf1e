use Rattle.std.proofs.Common.{sym, subst}
use Rattle.std.specs.Prelude.{OnOk}
use Rattle.legal_moves.specs.Compiled.{compiled_game, packing_kind}
use Rattle.legal_moves.specs.Sources.{IsWideAt}
use Rattle.certificate.specs.Lists.{lines_in}
use Rattle.certificate.specs.Shown.{AreNarrow}
use Rattle.certificate.specs.declared.claim.Claimed.{Claimed}
use Rattle.certificate.proofs.shown.show_by.Goals as goal

pub returns-in-Won-clause-narrow : goal.returns-in-Won-clause-narrow
returns-in-Won-clause-narrow c =
    let source = c.args.compiled.now in
    let lists = c.args.lists.now in
    subst (λ (k : Claimed). OnOk c.show_win.result
    (AreNarrow (IsWideAt (packing_kind source) (compiled_game source)) k (lines_in lists.first.list.items) (lines_in lists.second.list.items)))
    (sym c.in-Won.is) c.show_win.ensures.narrow

pub returns-in-Drawn-clause-narrow : goal.returns-in-Drawn-clause-narrow
returns-in-Drawn-clause-narrow c =
    let source = c.args.compiled.now in
    let lists = c.args.lists.now in
    subst (λ (k : Claimed). OnOk c.show_draw.result
    (AreNarrow (IsWideAt (packing_kind source) (compiled_game source)) k (lines_in lists.first.list.items) (lines_in lists.second.list.items)))
    (sym c.in-Drawn.is) c.show_draw.ensures.narrow
