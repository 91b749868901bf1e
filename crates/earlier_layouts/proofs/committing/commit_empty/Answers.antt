use Rattle.std.proofs.Common.{◌∙◌, length, None, refl, sym, subst}
use Rattle.page_store.specs.lemmas.Works.{works_refl}
use Rattle.earlier_layouts.specs.Calls.{file_of, state_of}
use Rattle.earlier_layouts.specs.Held.{Stores}
use Rattle.game_file.specs.declared.fault.FileFault.{FileFault}
use Rattle.tree_table.specs.Held.{StoresTrees}
use Rattle.tree_file.specs.MoveCauses.{IsNotMoved}
use Rattle.earlier_layouts.proofs.CarriedFile.{moved, not_moved, none_prepared}
use Rattle.earlier_layouts.proofs.committing.commit_empty.Goals as goal

pub returns-in-Ok-clause-moved : goal.returns-in-Ok-clause-moved
returns-in-Ok-clause-moved g c =
    let old = g.P.Pages.store c.args.store.now in
    let root = c.empty_root-root.result in
    moved old None c.requires.whole c.requires.open root old (g.P.Pages.store c.commit.new.self) c.empty_root-root.ensures.layout
    (λ late. c.empty_root-root.ensures.pages late ∙ c.capacity.ensures) (works_refl old) c.commit.ensures.commits
    (λ honest p. ⊥) (λ honest. none_prepared root (length old.marks) old c.empty_root-root.ensures.empty)
    (c.empty_root-root.ensures.commits ∙ c.requires.commits) c.in-Ok.ensures.after

pub returns-in-Err-clause-left : goal.returns-in-Err-clause-left
returns-in-Err-clause-left g c =
    let old = g.P.Pages.store c.args.store.now in
    let new = g.P.Pages.store c.commit.new.self in
    let root = c.empty_root-root.result in
    subst (λ (f : FileFault). IsNotMoved Stores (StoresTrees 3) (state_of (file_of old None)) new.disk new.failures f) (sym c.into.ensures)
    (not_moved old None c.requires.whole c.requires.open root old new c.empty_root-root.ensures.layout
    (λ late. c.empty_root-root.ensures.pages late ∙ c.capacity.ensures) (works_refl old) c.commit.ensures.commits
    (λ honest p. ⊥) (λ honest. none_prepared root
    (length old.marks) old c.empty_root-root.ensures.empty) c.in-Err.fault c.in-Err.ensures.untouched c.in-Err.ensures.cause refl)
