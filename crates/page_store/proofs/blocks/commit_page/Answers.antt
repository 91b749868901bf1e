use Rattle.std.proofs.Common.{◌∙◌, ap, sym}
use Rattle.std.proofs.lemmas.List.{get_or_default}
use Rattle.page_store.proofs.TurnedMarks.{part_page, is_rest}
use Rattle.page_store.specs.declared.marks.Mark.{Mark}
use Rattle.page_store.specs.declared.marks.Mark.TheVariants.{Committed}
use Rattle.page_store.specs.Holds.{holders_at}
use Rattle.page_store.specs.Marks.{committed}
use Rattle.page_store.proofs.blocks.commit_page.Goals as goal

pub returns : goal.returns
returns c =
    part_page _ _ _ _ _ c.requires.within
    (c.committed-now.ensures ∙ ap (λ (m : Mark). committed (holders_at c.args.holders.now c.args.page) m)
    (c.index.ensures ∙ get_or_default _ _ _ Committed c.requires.within))
    (λ none. sym c.rests.ensures ∙ is_rest c.rests.result none)
