use Rattle.std.proofs.Common.{◌∙◌, ap, sym}
use Rattle.game_file.specs.Fields.{layout_in}
use Rattle.tree_file.proofs.SealedStore.{no_root}
use Rattle.tree_file.proofs.open.read_root.Goals as goal

pub returns-in_default-clause-cause : goal.returns-in_default-clause-cause
returns-in_default-clause-cause g c =
    no_root c.args.layout (g.P.Pages.store c.args.store.now) c.root-root.result.bytes c.root-root.ensures c.in_default.ensures.none
    (ap layout_in (sym c.root-root.ensures) ∙ sym c.word_at-named.ensures ∙ c.if-named-layout-2.false)
