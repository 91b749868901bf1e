use Rattle.std.proofs.Common.{◌≡◌, ◌<◌, ◌∙◌, length, ap, refl, sym, subst, arith}
use Rattle.std.proofs.lemmas.List.{get_or_default}
use Rattle.sector_disk.specs.Disk.{Shown, sector}
use Rattle.page_store.specs.declared.marks.Mark.TheVariants.{Committed}
use Rattle.page_store.specs.Marks.{mark, keeps}
use Rattle.sector_disk.specs.Pages.{HasSectors}
use Rattle.page_store.specs.lemmas.Works.{works_refl}
use Rattle.page_store.proofs.CachedPages.{carried, part_of, added, held_reads}
use Rattle.page_store.proofs.PageSectors.{sectors_read}
use Rattle.page_store.proofs.DiskReads.{only_disk, works_from_disk}
use Rattle.page_store.proofs.Soundness.{sound_works, was_honest}
use Rattle.page_store.proofs.Exits.{passed_on, none_done, not_closed, unchanged_refl}
use Rattle.page_store.proofs.store.PageStorePages.read_page.Goals as goal

pub returns-then-self-clause-works : goal.returns-then-self-clause-works
returns-then-self-clause-works g c = works_refl _

pub returns-then-page-eq0-clause-works : goal.returns-then-page-eq0-clause-works
returns-then-page-eq0-clause-works g c = works_refl _

pub returns-then-give-clause-bytes : goal.returns-then-give-clause-bytes
returns-then-give-clause-bytes g c = λ h. held_reads _ _ c.args.self.now.cached _ _ (c.give.ensures.found c.if-give.true) h

pub returns-then-give-clause-works : goal.returns-then-give-clause-works
returns-then-give-clause-works g c = works_refl _

pub invariant_of-self-clause-cached : goal.invariant_of-self-clause-cached
invariant_of-self-clause-cached g c = part_of _ c.args.self.now.cache c.give.new.self c.args.self.now.cached c.give.ensures.others

pub returns-in_err-read_page-clause-works : goal.returns-in_err-read_page-clause-works
returns-in_err-read_page-clause-works g c =
    works_from_disk _ _ _ c.read_page.ensures.read c.read_page.ensures.cause.later

pub returns-then-is_kept-clause-works : goal.returns-then-is_kept-clause-works
returns-then-is_kept-clause-works g c =
    works_from_disk _ _ _ c.read_page.ensures.read c.read_page.ensures.cause.later

pub returns-else-is_kept-clause-works : goal.returns-else-is_kept-clause-works
returns-else-is_kept-clause-works g c =
    works_from_disk _ _ _ c.read_page.ensures.read c.read_page.ensures.cause.later

pub invariant_of-self-in-Break-1 : goal.invariant_of-self-in-Break-1
invariant_of-self-in-Break-1 g c = record {
  sound = sound_works _ _ c.args.self.now.sound
      (works_from_disk _ _ _ c.read_page.ensures.read c.read_page.ensures.cause.later)
      c.args.self.now.sound.system;
  blocks = c.args.self.now.blocks;
  unused = c.args.self.now.unused;
  cached = carried _ _ _ _ c.args.self.now.cached c.give.ensures.others (was_honest c.read_page.ensures.read.time) (λ p held there kept. kept)
      (λ h p held there behind k within. ap (λ (s : Shown). sector s.contents k) (c.read_page.ensures.read.unchanged h));
}

pub invariant_of-self-else-is_kept-clause-cached : goal.invariant_of-self-else-is_kept-clause-cached
invariant_of-self-else-is_kept-clause-cached g c =
    carried _ _ _ _ c.args.self.now.cached c.give.ensures.others (was_honest c.read_page.ensures.read.time) (λ p held there kept. kept)
    (λ h p held there behind k within. ap (λ (s : Shown). sector s.contents k) (c.read_page.ensures.read.unchanged h))

pub invariant_of-self-then-is_kept-clause-cached : goal.invariant_of-self-then-is_kept-clause-cached
invariant_of-self-then-is_kept-clause-cached g c =
    let here : c.args.page < length c.args.self.now.marks.items = omega (arith, c.if-page-len.false, c.len.ensures) in
    let keeps_it : keeps (mark c.args.self.now.marks.items c.args.page) ≡ c.is_kept.result =
    sym (c.is_kept.ensures ∙ ap keeps (c.index.ensures ∙ get_or_default _ _ _ Committed here)) in
    added _ _ _ _ _ _ (part_of _ c.args.self.now.cache c.give.new.self c.args.self.now.cached c.give.ensures.others) c.put-no_memory.ensures
    (was_honest c.read_page.ensures.read.time) refl
    (omega (arith, c.if-page-eq0.false), here, keeps_it ∙ c.if-is_kept.true)
    (λ h. subst (λ (s : Shown). HasSectors s.contents c.args.page c.read_page.new.into) (sym (c.read_page.ensures.read.unchanged h))
    (c.in_ok-read_page.ensures.bytes h))
    (λ h p other k within. ap (λ (s : Shown). sector s.contents k) (c.read_page.ensures.read.unchanged h))

pub returns-then-self-clause-bytes : goal.returns-then-self-clause-bytes
returns-then-self-clause-bytes g c = λ honest. tt

pub returns-then-self-clause-is_page : goal.returns-then-self-clause-is_page
returns-then-self-clause-is_page g c = tt

pub returns-then-self-clause-within : goal.returns-then-self-clause-within
returns-then-self-clause-within g c = tt

pub returns-then-self-clause-open : goal.returns-then-self-clause-open
returns-then-self-clause-open g c = tt

pub returns-then-self-clause-unchanged : goal.returns-then-self-clause-unchanged
returns-then-self-clause-unchanged g c = unchanged_refl _

pub returns-then-self-clause-untouched : goal.returns-then-self-clause-untouched
returns-then-self-clause-untouched g c = λ other. refl

pub returns-then-self-clause-cause : goal.returns-then-self-clause-cause
returns-then-self-clause-cause g c = c.if-self.true

pub returns-then-self-clause-closed : goal.returns-then-self-clause-closed
returns-then-self-clause-closed g c = λ is. refl

pub returns-then-page-eq0-clause-bytes : goal.returns-then-page-eq0-clause-bytes
returns-then-page-eq0-clause-bytes g c = λ honest. tt

pub returns-then-page-eq0-clause-is_page : goal.returns-then-page-eq0-clause-is_page
returns-then-page-eq0-clause-is_page g c = tt

pub returns-then-page-eq0-clause-within : goal.returns-then-page-eq0-clause-within
returns-then-page-eq0-clause-within g c = tt

pub returns-then-page-eq0-clause-open : goal.returns-then-page-eq0-clause-open
returns-then-page-eq0-clause-open g c = tt

pub returns-then-page-eq0-clause-unchanged : goal.returns-then-page-eq0-clause-unchanged
returns-then-page-eq0-clause-unchanged g c = unchanged_refl _

pub returns-then-page-eq0-clause-untouched : goal.returns-then-page-eq0-clause-untouched
returns-then-page-eq0-clause-untouched g c = λ other. refl

pub returns-then-page-eq0-clause-closed : goal.returns-then-page-eq0-clause-closed
returns-then-page-eq0-clause-closed g c = λ is. absurd (not_closed _ c.if-self.false is)

pub returns-then-give-clause-is_page : goal.returns-then-give-clause-is_page
returns-then-give-clause-is_page g c = omega (arith, c.if-page-eq0.false)

pub returns-then-give-clause-within : goal.returns-then-give-clause-within
returns-then-give-clause-within g c = omega (arith, c.if-page-len.false, c.len.ensures)

pub returns-then-give-clause-open : goal.returns-then-give-clause-open
returns-then-give-clause-open g c = c.if-self.false

pub returns-then-give-clause-unchanged : goal.returns-then-give-clause-unchanged
returns-then-give-clause-unchanged g c = unchanged_refl _

pub returns-then-give-clause-untouched : goal.returns-then-give-clause-untouched
returns-then-give-clause-untouched g c = tt

pub returns-then-give-clause-cause : goal.returns-then-give-clause-cause
returns-then-give-clause-cause g c = tt

pub returns-then-give-clause-closed : goal.returns-then-give-clause-closed
returns-then-give-clause-closed g c = λ is. absurd (not_closed _ c.if-self.false is)

pub returns-in_err-read_page-clause-bytes : goal.returns-in_err-read_page-clause-bytes
returns-in_err-read_page-clause-bytes g c = λ honest. none_done _ c.from_residual.result c.from_residual.ensures.0

pub returns-in_err-read_page-clause-is_page : goal.returns-in_err-read_page-clause-is_page
returns-in_err-read_page-clause-is_page g c = none_done _ c.from_residual.result c.from_residual.ensures.0

pub returns-in_err-read_page-clause-within : goal.returns-in_err-read_page-clause-within
returns-in_err-read_page-clause-within g c = none_done _ c.from_residual.result c.from_residual.ensures.0

pub returns-in_err-read_page-clause-open : goal.returns-in_err-read_page-clause-open
returns-in_err-read_page-clause-open g c = none_done _ c.from_residual.result c.from_residual.ensures.0

pub returns-in_err-read_page-clause-unchanged : goal.returns-in_err-read_page-clause-unchanged
returns-in_err-read_page-clause-unchanged g c =
    only_disk _ _ _ c.read_page.ensures.read

pub returns-in_err-read_page-clause-untouched : goal.returns-in_err-read_page-clause-untouched
returns-in_err-read_page-clause-untouched g c = passed_on _ c.from_residual.result _ c.from_residual.ensures (λ other. absurd (other refl))

pub returns-in_err-read_page-clause-closed : goal.returns-in_err-read_page-clause-closed
returns-in_err-read_page-clause-closed g c = λ is. absurd (not_closed _ c.if-self.false is)

pub returns-then-is_kept-clause-bytes : goal.returns-then-is_kept-clause-bytes
returns-then-is_kept-clause-bytes g c = λ h. sectors_read _ _ _ (c.in_ok-read_page.ensures.bytes h)

pub returns-then-is_kept-clause-is_page : goal.returns-then-is_kept-clause-is_page
returns-then-is_kept-clause-is_page g c = omega (arith, c.if-page-eq0.false)

pub returns-then-is_kept-clause-within : goal.returns-then-is_kept-clause-within
returns-then-is_kept-clause-within g c = omega (arith, c.if-page-len.false, c.len.ensures)

pub returns-then-is_kept-clause-open : goal.returns-then-is_kept-clause-open
returns-then-is_kept-clause-open g c = c.if-self.false

pub returns-then-is_kept-clause-unchanged : goal.returns-then-is_kept-clause-unchanged
returns-then-is_kept-clause-unchanged g c =
    only_disk _ _ _ c.read_page.ensures.read

pub returns-then-is_kept-clause-untouched : goal.returns-then-is_kept-clause-untouched
returns-then-is_kept-clause-untouched g c = tt

pub returns-then-is_kept-clause-cause : goal.returns-then-is_kept-clause-cause
returns-then-is_kept-clause-cause g c = tt

pub returns-then-is_kept-clause-closed : goal.returns-then-is_kept-clause-closed
returns-then-is_kept-clause-closed g c = λ is. absurd (not_closed _ c.if-self.false is)

pub returns-else-is_kept-clause-bytes : goal.returns-else-is_kept-clause-bytes
returns-else-is_kept-clause-bytes g c = λ h. sectors_read _ _ _ (c.in_ok-read_page.ensures.bytes h)

pub returns-else-is_kept-clause-is_page : goal.returns-else-is_kept-clause-is_page
returns-else-is_kept-clause-is_page g c = omega (arith, c.if-page-eq0.false)

pub returns-else-is_kept-clause-within : goal.returns-else-is_kept-clause-within
returns-else-is_kept-clause-within g c = omega (arith, c.if-page-len.false, c.len.ensures)

pub returns-else-is_kept-clause-open : goal.returns-else-is_kept-clause-open
returns-else-is_kept-clause-open g c = c.if-self.false

pub returns-else-is_kept-clause-unchanged : goal.returns-else-is_kept-clause-unchanged
returns-else-is_kept-clause-unchanged g c =
    only_disk _ _ _ c.read_page.ensures.read

pub returns-else-is_kept-clause-untouched : goal.returns-else-is_kept-clause-untouched
returns-else-is_kept-clause-untouched g c = tt

pub returns-else-is_kept-clause-cause : goal.returns-else-is_kept-clause-cause
returns-else-is_kept-clause-cause g c = tt

pub returns-else-is_kept-clause-closed : goal.returns-else-is_kept-clause-closed
returns-else-is_kept-clause-closed g c = λ is. absurd (not_closed _ c.if-self.false is)

pub returns-in-Some-clause-bytes : goal.returns-in-Some-clause-bytes
returns-in-Some-clause-bytes g c = λ h. sectors_read _ _ _ (c.in-Some.ensures h)

pub returns-in-Some-clause-works : goal.returns-in-Some-clause-works
returns-in-Some-clause-works g c = works_refl _
