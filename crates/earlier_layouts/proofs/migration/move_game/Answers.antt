use Rattle.std.proofs.Common.{◌≡◌, Some, refl}
use Rattle.std.proofs.lemmas.Result.{IfErr-weaker}
use Rattle.page_store.specs.lemmas.Works.{works_refl, works_then}
use Rattle.table.specs.InMemory.{stored_in}
use Rattle.tree_table.specs.KeptTrees.{IsSizedSlot}
use Rattle.tree_table.specs.WorkTable.{HoldsTable}
use Rattle.earlier_layouts.specs.lemmas.MovingSteps.{HasFrameOf, StepCause}
use Rattle.game_file.specs.declared.fault.FileFault.TheVariants.{Inconsistent}
use Rattle.earlier_layouts.proofs.CarriedFile.{works_not_moved, game_copied, step_moves, root_moves, of_ok, of_done, of_err}
use Rattle.earlier_layouts.proofs.migration.move_game.Goals as goal

pub returns-then-packed-eq0-clause-left : goal.returns-then-packed-eq0-clause-left
returns-then-packed-eq0-clause-left g c =
    let old = g.P.Pages.store c.args.store in
    works_not_moved old (Some c.args.game) c.requires.whole c.requires.open old Inconsistent (works_refl old)

pub returns-in-Err-clause-left : goal.returns-in-Err-clause-left
returns-in-Err-clause-left g c =
    works_not_moved (g.P.Pages.store c.args.store) (Some c.args.game) c.requires.whole c.requires.open
    (g.P.Pages.store c.write_text.new.store) c.in-Err.fault c.in-Err.ensures.works

pub returns-in-Err-clause-cause : goal.returns-in-Err-clause-cause
returns-in-Err-clause-cause g c =
    let old = g.P.Pages.store c.args.store in
    step_moves old old (g.P.Pages.store c.write_text.new.store) c.args.game c.in-Err.fault c.requires.open (works_refl old) refl c.in-Err.ensures.cause

pub returns-in-Ok-result-clause-moved : goal.returns-in-Ok-result-clause-moved
returns-in-Ok-result-clause-moved g c =
    let old = g.P.Pages.store c.args.store in
    let mid = g.P.Pages.store c.write_text.new.store in
    let made = g.P.Pages.store c.copy_on-store.result.store in
    let game = c.args.game in
    let slot = c.in-Ok.slot in
    let is = c.in-Ok-result.slot in
    let wrote = c.in-Ok.ensures in
    let copy = c.copy_on-store.ensures in
    let got = c.in-Ok-result.is in
    let copied = game_copied slot is old mid made game c.deref.result.now c.requires.whole c.requires.open c.deref.ensures.value wrote.slot wrote.works wrote.still copy.works
    (of_done (made.closed ≡ mid.closed) c.copy_on-store.result.result is got copy.still)
    (λ honest. of_ok (λ s. HoldsTable s game.text.items (stored_in game.table) made) c.copy_on-store.result.result is got (copy.holds honest))
    (of_ok (λ s. HasFrameOf s slot) c.copy_on-store.result.result is got copy.frame) (of_ok IsSizedSlot c.copy_on-store.result.result is got copy.sized) in
    c.commit_slot-result.ensures.moved old game copied c.requires.commits

pub returns-in-Ok-result-clause-left : goal.returns-in-Ok-result-clause-left
returns-in-Ok-result-clause-left g c =
    let old = g.P.Pages.store c.args.store in
    let mid = g.P.Pages.store c.write_text.new.store in
    let made = g.P.Pages.store c.copy_on-store.result.store in
    let game = c.args.game in
    let slot = c.in-Ok.slot in
    let is = c.in-Ok-result.slot in
    let wrote = c.in-Ok.ensures in
    let copy = c.copy_on-store.ensures in
    let got = c.in-Ok-result.is in
    let copied = game_copied slot is old mid made game c.deref.result.now c.requires.whole c.requires.open c.deref.ensures.value wrote.slot wrote.works wrote.still copy.works
    (of_done (made.closed ≡ mid.closed) c.copy_on-store.result.result is got copy.still)
    (λ honest. of_ok (λ s. HoldsTable s game.text.items (stored_in game.table) made) c.copy_on-store.result.result is got (copy.holds honest))
    (of_ok (λ s. HasFrameOf s slot) c.copy_on-store.result.result is got copy.frame) (of_ok IsSizedSlot c.copy_on-store.result.result is got copy.sized) in
    c.commit_slot-result.ensures.left old game copied

pub returns-in-Ok-result-clause-cause : goal.returns-in-Ok-result-clause-cause
returns-in-Ok-result-clause-cause g c =
    let old = g.P.Pages.store c.args.store in
    let mid = g.P.Pages.store c.write_text.new.store in
    let made = g.P.Pages.store c.copy_on-store.result.store in
    let game = c.args.game in
    let slot = c.in-Ok.slot in
    let is = c.in-Ok-result.slot in
    let wrote = c.in-Ok.ensures in
    let copy = c.copy_on-store.ensures in
    let got = c.in-Ok-result.is in
    let copied = game_copied slot is old mid made game c.deref.result.now c.requires.whole c.requires.open c.deref.ensures.value wrote.slot wrote.works wrote.still copy.works
    (of_done (made.closed ≡ mid.closed) c.copy_on-store.result.result is got copy.still)
    (λ honest. of_ok (λ s. HoldsTable s game.text.items (stored_in game.table) made) c.copy_on-store.result.result is got (copy.holds honest))
    (of_ok (λ s. HasFrameOf s slot) c.copy_on-store.result.result is got copy.frame) (of_ok IsSizedSlot c.copy_on-store.result.result is got copy.sized) in
    IfErr-weaker c.commit_slot-result.result _ _
    (λ fault cause. root_moves old made (g.P.Pages.store c.commit_slot-result.new.store) (Some game) fault c.requires.open copied.works copied.still cause)
    c.commit_slot-result.ensures.cause

pub returns-clause-left : goal.returns-clause-left
returns-clause-left g c =
    works_not_moved (g.P.Pages.store c.args.store) (Some c.args.game) c.requires.whole c.requires.open
    (g.P.Pages.store c.copy_on-store.result.store) c.in-Err-result.fault
    (works_then c.write_text.ensures.works c.copy_on-store.ensures.works)

pub returns-clause-cause : goal.returns-clause-cause
returns-clause-cause g c =
    let mid = g.P.Pages.store c.write_text.new.store in
    let made = g.P.Pages.store c.copy_on-store.result.store in
    step_moves (g.P.Pages.store c.args.store) mid made c.args.game c.in-Err-result.fault c.requires.open c.write_text.ensures.works c.in-Ok.ensures.still
    (of_err (StepCause mid made) c.copy_on-store.result.result c.in-Err-result.fault c.in-Err-result.is c.copy_on-store.ensures.cause)
