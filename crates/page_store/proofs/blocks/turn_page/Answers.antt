use Rattle.std.proofs.Common.{◌∙◌, ap, sym}
use Rattle.std.proofs.lemmas.List.{get_or_default}
use Rattle.page_store.proofs.TurnedMarks.{part_page, is_rest}
use Rattle.page_store.specs.declared.marks.Mark.{Mark}
use Rattle.page_store.specs.declared.marks.Mark.TheVariants.{Committed}
use Rattle.page_store.specs.Marks.{turned}
use Rattle.page_store.proofs.blocks.turn_page.Goals as goal

pub returns : goal.returns
returns c =
    part_page _ _ _ _ _ c.requires
    (c.turned-now.ensures ∙ ap (λ (m : Mark). turned c.args.fresh c.args.released c.args.waiting m)
    (c.index.ensures ∙ get_or_default _ _ _ Committed c.requires))
    (λ none. sym c.rests.ensures ∙ is_rest c.rests.result none)
