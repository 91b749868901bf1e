use Rattle.std.proofs.Common.{◌≡◌, ◌<◌, ◌∙◌, length, ap, refl, sym, arith, rules}
use Rattle.std.proofs.lemmas.List.{get_or_default}
use Rattle.page_store.specs.declared.marks.Mark.TheVariants.{Committed, Waiting, Free}
use Rattle.page_store.specs.Marks.{mark, needs, is_past}
use Rattle.page_store.specs.lemmas.Works.{works_refl}
use Rattle.page_store.proofs.Soundness.{marked_works, marked_sound, not_zero, waiting_apart}
use Rattle.page_store.proofs.CachedPages.{carried, still_kept}
use Rattle.page_store.proofs.Exits.{not_closed}
use Rattle.page_store.proofs.Unused.{unused_marked}
use Rattle.page_store.proofs.store.PageStorePages.mark.Goals as goal

pub returns-then-self-clause-works : goal.returns-then-self-clause-works
returns-then-self-clause-works g c = works_refl _

pub returns-then-page-len-clause-works : goal.returns-then-page-len-clause-works
returns-then-page-len-clause-works g c = works_refl _

pub invariant_of-self : goal.invariant_of-self
invariant_of-self g c =
    let here : c.args.page < length c.args.self.now.marks.items = omega (arith, c.if-page-len.false, c.len.ensures) in
    let found : c.index.result.now ≡ Waiting = search rules in
    let was : mark c.args.self.now.marks.items c.args.page ≡ Waiting = sym (c.index.ensures ∙ get_or_default _ _ _ Committed here) ∙ found in
    record {
      sound = marked_sound _ _ _ _ (record {
        disk = refl;
        failures = refl;
        root = refl;
        closed = refl;
        holds = refl;
      }) c.put_mark.ensures.marked (sym (ap needs was)) (λ is. was) (sym (ap is_past was)) c.args.self.now.sound
          (not_zero _ _ c.args.self.now.sound.system (waiting_apart _ was));
      blocks = c.put_mark.ensures.noted;
      unused = unused_marked _ _ _ _ _ _ c.args.self.now.unused c.put_mark.ensures.marked (omega arith)
          (λ above. absurd (let no : Waiting ≡ Free = sym was ∙ c.args.self.now.unused.each c.args.page above here in cc));
      cached = carried _ _ _ _ c.args.self.now.cached (λ p held there. there) (λ h. h)
          (λ p held there. still_kept _ _ _ _ c.put_mark.ensures.marked refl p) (λ h p held there behind k within. refl);
    }

pub returns-clause-works : goal.returns-clause-works
returns-clause-works g c =
    let here : c.args.page < length c.args.self.now.marks.items = omega (arith, c.if-page-len.false, c.len.ensures) in
    let found : c.index.result.now ≡ Waiting = search rules in
    let was : mark c.args.self.now.marks.items c.args.page ≡ Waiting = sym (c.index.ensures ∙ get_or_default _ _ _ Committed here) ∙ found in
    marked_works _ _ _ _ (record { disk = refl; failures = refl; root = refl; closed = refl; holds = refl }) c.put_mark.ensures.marked
    (sym (ap needs was)) (λ is. was) (sym (ap is_past was))

pub returns-then-self-clause-ok : goal.returns-then-self-clause-ok
returns-then-self-clause-ok g c = tt

pub returns-then-self-clause-waited : goal.returns-then-self-clause-waited
returns-then-self-clause-waited g c = tt

pub returns-then-self-clause-is_page : goal.returns-then-self-clause-is_page
returns-then-self-clause-is_page g c = tt

pub returns-then-self-clause-within : goal.returns-then-self-clause-within
returns-then-self-clause-within g c = tt

pub returns-then-self-clause-open : goal.returns-then-self-clause-open
returns-then-self-clause-open g c = tt

pub returns-then-self-clause-refused : goal.returns-then-self-clause-refused
returns-then-self-clause-refused g c = refl

pub returns-then-self-clause-cause : goal.returns-then-self-clause-cause
returns-then-self-clause-cause g c = c.if-self.true

pub returns-then-self-clause-closed : goal.returns-then-self-clause-closed
returns-then-self-clause-closed g c = λ is. refl

pub returns-then-self-clause-others : goal.returns-then-self-clause-others
returns-then-self-clause-others g c = record { disk = refl; failures = refl; root = refl; closed = refl; holds = refl }

pub returns-then-page-len-clause-ok : goal.returns-then-page-len-clause-ok
returns-then-page-len-clause-ok g c = tt

pub returns-then-page-len-clause-waited : goal.returns-then-page-len-clause-waited
returns-then-page-len-clause-waited g c = tt

pub returns-then-page-len-clause-is_page : goal.returns-then-page-len-clause-is_page
returns-then-page-len-clause-is_page g c = tt

pub returns-then-page-len-clause-within : goal.returns-then-page-len-clause-within
returns-then-page-len-clause-within g c = tt

pub returns-then-page-len-clause-open : goal.returns-then-page-len-clause-open
returns-then-page-len-clause-open g c = tt

pub returns-then-page-len-clause-refused : goal.returns-then-page-len-clause-refused
returns-then-page-len-clause-refused g c = refl

pub returns-then-page-len-clause-closed : goal.returns-then-page-len-clause-closed
returns-then-page-len-clause-closed g c = λ is. absurd (not_closed _ c.if-self.false is)

pub returns-then-page-len-clause-others : goal.returns-then-page-len-clause-others
returns-then-page-len-clause-others g c = record { disk = refl; failures = refl; root = refl; closed = refl; holds = refl }

pub returns-clause-ok : goal.returns-clause-ok
returns-clause-ok g c = c.put_mark.ensures.marked

pub returns-clause-open : goal.returns-clause-open
returns-clause-open g c = c.if-self.false

pub returns-clause-refused : goal.returns-clause-refused
returns-clause-refused g c = tt

pub returns-clause-cause : goal.returns-clause-cause
returns-clause-cause g c = tt

pub returns-clause-closed : goal.returns-clause-closed
returns-clause-closed g c = λ is. absurd (not_closed _ c.if-self.false is)

pub returns-clause-others : goal.returns-clause-others
returns-clause-others g c = record { disk = refl; failures = refl; root = refl; closed = refl; holds = refl }
