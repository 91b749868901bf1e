use Rattle.std.proofs.Common.{◌+◌, ◌*◌, ◌∙◌, ap, drop, take}
use Rattle.btree.specs.Page.{count_in, behind_of}
use Rattle.btree.specs.lemmas.Items.{item_got}
use Rattle.btree.proofs.pages.KeyPlaces.{item_cut}
use Rattle.btree.proofs.page.read.item_at.Goals as goal

pub returns-clause-got : goal.returns-clause-got
returns-clause-got c =
    let w = c.args.widths in
    let behind = behind_of w c.args.kind in
    item_got w.key behind (count_in c.args.bytes.now) c.args.place (drop 4 c.args.bytes.now) c.requires.within
    ∙ item_cut w.key behind c.args.place (4 + c.args.place * (w.key + c.behind_of.result)) c.args.bytes.now c.split_at-2.result.0.now
    (ap (λ b. 4 + c.args.place * (w.key + b)) c.behind_of.ensures)
    (c.split_at-2.ensures.front ∙ (λ i. take (w.key + c.behind_of.ensures i) (c.split_at.ensures.back i)))
    _ _ c.split_at-3.ensures.front c.split_at-3.ensures.back
