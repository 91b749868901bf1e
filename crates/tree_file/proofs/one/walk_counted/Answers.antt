use Rattle.std.proofs.Common.{refl, sym, ◌∙◌, subst}
use Rattle.tree_file.specs.lemmas.One.{CountIs, TreeCause}
use Rattle.tree_file.specs.lemmas.Told.{IsPastCount}
use Rattle.tree_file.proofs.Told.{not_past}
use Rattle.tree_file.proofs.Walks.{walk_fails, unlike, alike}
use Rattle.tree_file.proofs.one.walk_counted.Goals as goal

pub returns-in-Err-clause-cause : goal.returns-in-Err-clause-cause
returns-in-Err-clause-cause g c =
    subst (TreeCause c.args.slot.now c.args.tree (CountIs c.args.wanted) (g.P.Pages.store c.args.store.now) (g.P.Pages.store c.walk.new.store))
    (sym c.page_fault.ensures)
    (walk_fails c.args.slot.now c.args.tree c.widths_of-widths.result c.root.result c.widths_of-widths.ensures.keys c.widths_of-widths.ensures.values
    c.root.ensures
    (g.P.Pages.store c.args.store.now) (g.P.Pages.store c.walk.new.store) (CountIs c.args.wanted) IsPastCount (CountIs 0) refl
    (λ front back entry past such. not_past front back entry c.args.wanted c.ranges.wanted.fits past such) c.in-Err.fault c.in-Err.ensures.cause)

pub returns-then-told-wanted-clause-tree : goal.returns-then-told-wanted-clause-tree
returns-then-told-wanted-clause-tree g c = λ honest.
    alike c.args.slot.now c.args.tree c.widths_of-widths.result c.root.result c.widths_of-widths.ensures.keys c.widths_of-widths.ensures.values c.root.ensures
    (g.P.Pages.store c.args.store.now) (g.P.Pages.store c.walk.new.store) (CountIs c.args.wanted) (CountIs 0) (CountIs c.walk.new.visitor.count) refl
    (c.in_default.ensures.map honest) (λ es is. is ∙ c.if-told-wanted.true)

pub returns-else-told-wanted-clause-cause : goal.returns-else-told-wanted-clause-cause
returns-else-told-wanted-clause-cause g c = λ honest.
    unlike c.args.slot.now c.args.tree c.widths_of-widths.result c.root.result c.widths_of-widths.ensures.keys c.widths_of-widths.ensures.values c.root.ensures
    (g.P.Pages.store c.args.store.now) (g.P.Pages.store c.walk.new.store) (CountIs c.args.wanted) (CountIs 0) (CountIs c.walk.new.visitor.count) refl
    (c.in_default.ensures.map honest) (λ es is such. c.if-told-wanted.false (sym is ∙ such))
