use Rattle.std.proofs.Common.{◌≡◌, ◌∙◌, inl, Some, sym, subst, arith}
use Rattle.earlier_layouts.specs.Calls.{file_of, state_of}
use Rattle.earlier_layouts.specs.Held.{Stores}
use Rattle.game_file.specs.declared.fault.FileFault.{FileFault}
use Rattle.tree_table.specs.Held.{StoresTrees}
use Rattle.tree_table.specs.Slot.{slot_in}
use Rattle.tree_file.specs.MoveCauses.{IsNotMoved}
use Rattle.earlier_layouts.proofs.CarriedFile.{moved, not_moved, game_pages, game_prepared}
use Rattle.earlier_layouts.proofs.committing.commit_slot.Goals as goal

pub returns-in-Ok-clause-moved : goal.returns-in-Ok-clause-moved
returns-in-Ok-clause-moved g c = λ begun game copied count.
    let mid = g.P.Pages.store c.args.store.now in
    let root = c.game_slot-root.result in
    let slot = c.args.slot.now in
    let told : slot_in root ≡ slot = c.game_slot-root.ensures.slot (inl (omega arith)) in
    moved begun (Some game) copied.whole copied.is_open root mid (g.P.Pages.store c.commit.new.self) c.game_slot-root.ensures.layout
    (λ late. c.game_slot-root.ensures.pages late ∙ c.capacity.ensures ∙ copied.works.same_pages) copied.works c.commit.ensures.commits
    (game_pages root slot begun mid game copied c.game_slot-root.ensures.packing told)
    (game_prepared root slot begun mid game copied c.game_slot-root.ensures.packing told)
    (c.game_slot-root.ensures.commits ∙ count) c.in-Ok.ensures.after

pub returns-in-Err-clause-left : goal.returns-in-Err-clause-left
returns-in-Err-clause-left g c = λ begun game copied.
    let mid = g.P.Pages.store c.args.store.now in
    let new = g.P.Pages.store c.commit.new.self in
    let root = c.game_slot-root.result in
    let slot = c.args.slot.now in
    let told : slot_in root ≡ slot = c.game_slot-root.ensures.slot (inl (omega arith)) in
    subst (λ (f : FileFault). IsNotMoved Stores (StoresTrees 3) (state_of (file_of begun (Some game))) new.disk new.failures f) (sym c.into.ensures)
    (not_moved begun (Some game) copied.whole copied.is_open root mid new c.game_slot-root.ensures.layout
    (λ late. c.game_slot-root.ensures.pages late ∙ c.capacity.ensures ∙ copied.works.same_pages) copied.works c.commit.ensures.commits
    (game_pages root slot begun mid game copied c.game_slot-root.ensures.packing told)
    (game_prepared root slot begun mid game copied c.game_slot-root.ensures.packing told)
    c.in-Err.fault c.in-Err.ensures.untouched c.in-Err.ensures.cause copied.still)
