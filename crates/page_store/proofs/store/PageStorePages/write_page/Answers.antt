use Rattle.std.proofs.Common.{refl, sym, ap, ◌∙◌}
use Rattle.std.specs.Result.{is_err}
use Rattle.page_store.specs.lemmas.Works.{works_refl, closes_same, closes_failed}
use Rattle.page_store.proofs.CachedPages.{carried, added, fresh_kept, is_ok}
use Rattle.page_store.proofs.Soundness.{reads_else, sectors_else, works_write, was_honest, not_system}
use Rattle.page_store.proofs.PageSectors.{sectors_read}
use Rattle.page_store.proofs.Exits.{not_closed, counted_ok, counted_err}
use Rattle.page_store.proofs.store.PageStorePages.write_page.Goals as goal

pub returns-then-self-clause-works : goal.returns-then-self-clause-works
returns-then-self-clause-works g c = works_refl _

pub returns-in-Err-clause-others : goal.returns-in-Err-clause-others
returns-in-Err-clause-others g c = λ h. reads_else _ _ _ c.write_page-written.ensures.put.kept h

pub returns-in-Ok-clause-others : goal.returns-in-Ok-clause-others
returns-in-Ok-clause-others g c = λ h. reads_else _ _ _ c.write_page-written.ensures.put.kept h

pub returns-in-Ok-clause-written : goal.returns-in-Ok-clause-written
returns-in-Ok-clause-written g c = λ h. sym
    (sectors_read _ _ _ (is_ok _ _ c.in-Ok.is
    (c.write_page-written.ensures.written h)))

pub returns-in-Err-clause-works : goal.returns-in-Err-clause-works
returns-in-Err-clause-works g c =
    works_write _ _ _ c.args.self.now.sound c.requires refl refl refl c.write_page-written.ensures.put.kept c.write_page-written.ensures.put.time c.write_page-written.ensures.put.same_size c.write_page-written.ensures.cause.later (λ closed. c.if-self.false)
    (closes_failed (c.is_err-self.ensures.value ∙ ap is_err c.in-Err.is) (counted_err _ (ap is_err c.in-Err.is) c.write_page-written.ensures.counted))

pub returns-in-Ok-clause-works : goal.returns-in-Ok-clause-works
returns-in-Ok-clause-works g c =
    works_write _ _ _ c.args.self.now.sound c.requires refl refl refl c.write_page-written.ensures.put.kept c.write_page-written.ensures.put.time c.write_page-written.ensures.put.same_size c.write_page-written.ensures.cause.later (λ closed. c.if-self.false)
    (closes_same (c.is_err-self.ensures.value ∙ ap is_err c.in-Ok.is ∙ sym c.if-self.false)
    (counted_ok _ (ap is_err c.in-Ok.is) c.write_page-written.ensures.counted))

pub invariant_of-self-in-Err-clause-cached : goal.invariant_of-self-in-Err-clause-cached
invariant_of-self-in-Err-clause-cached g c =
    carried _ _ _ _ c.args.self.now.cached (λ p held there. (c.forget.ensures p held there).1)
    (was_honest c.write_page-written.ensures.put.time) (λ p held there kept. kept)
    (λ h p held there behind. sectors_else _ _ _ c.write_page-written.ensures.put.kept h p (c.forget.ensures p held there).0)

pub invariant_of-self-clause-cached : goal.invariant_of-self-clause-cached
invariant_of-self-clause-cached g c =
    added _ _ _ _ _ _ c.args.self.now.cached c.keep-no_memory.ensures (was_honest c.write_page-written.ensures.put.time) refl
    (fresh_kept _ _ (not_system _ _ c.args.self.now.sound.system c.requires) c.requires)
    (λ h. is_ok _ _ c.in-Ok.is (c.write_page-written.ensures.written h))
    (sectors_else _ _ _ c.write_page-written.ensures.put.kept)

pub returns-then-self-clause-written : goal.returns-then-self-clause-written
returns-then-self-clause-written g c = λ honest. tt

pub returns-then-self-clause-others : goal.returns-then-self-clause-others
returns-then-self-clause-others g c = λ honest p other. refl

pub returns-then-self-clause-marks : goal.returns-then-self-clause-marks
returns-then-self-clause-marks g c = refl

pub returns-then-self-clause-open : goal.returns-then-self-clause-open
returns-then-self-clause-open g c = tt

pub returns-then-self-clause-untouched : goal.returns-then-self-clause-untouched
returns-then-self-clause-untouched g c = λ other. refl

pub returns-then-self-clause-cause : goal.returns-then-self-clause-cause
returns-then-self-clause-cause g c = c.if-self.true

pub returns-then-self-clause-closed : goal.returns-then-self-clause-closed
returns-then-self-clause-closed g c = λ is. refl

pub returns-in-Ok-clause-marks : goal.returns-in-Ok-clause-marks
returns-in-Ok-clause-marks g c = refl

pub returns-in-Ok-clause-untouched : goal.returns-in-Ok-clause-untouched
returns-in-Ok-clause-untouched g c = tt

pub returns-in-Ok-clause-cause : goal.returns-in-Ok-clause-cause
returns-in-Ok-clause-cause g c = tt

pub returns-in-Ok-clause-closed : goal.returns-in-Ok-clause-closed
returns-in-Ok-clause-closed g c = λ is. absurd (not_closed _ c.if-self.false is)

pub returns-in-Err-clause-written : goal.returns-in-Err-clause-written
returns-in-Err-clause-written g c = λ honest. tt

pub returns-in-Err-clause-marks : goal.returns-in-Err-clause-marks
returns-in-Err-clause-marks g c = refl

pub returns-in-Err-clause-open : goal.returns-in-Err-clause-open
returns-in-Err-clause-open g c = tt

pub returns-in-Err-clause-untouched : goal.returns-in-Err-clause-untouched
returns-in-Err-clause-untouched g c = λ other. absurd (other c.into.ensures)

pub returns-in-Err-clause-closed : goal.returns-in-Err-clause-closed
returns-in-Err-clause-closed g c = λ is. absurd (not_closed _ c.if-self.false is)
