use Rattle.std.proofs.Common.{◌≡◌, ◌∙◌, List, ap, refl, sym, arith}
use Rattle.page_store.specs.declared.marks.Mark.{Mark}
use Rattle.page_store.specs.declared.marks.Mark.TheVariants.{Free}
use Rattle.page_store.specs.Marks.{mark, needs, is_past}
use Rattle.page_store.specs.lemmas.Works.{works_refl}
use Rattle.page_store.proofs.Soundness.{marked_works, fresh_waits}
use Rattle.page_store.proofs.CachedPages.{carried, still_kept}
use Rattle.page_store.proofs.Exits.{not_closed}
use Rattle.page_store.proofs.Unused.{unused_marked}
use Rattle.page_store.proofs.store.PageStorePages.new_page.Goals as goal

pub returns-then-self-clause-works : goal.returns-then-self-clause-works
returns-then-self-clause-works g c = works_refl _

pub returns-in-None-clause-works : goal.returns-in-None-clause-works
returns-in-None-clause-works g c = works_refl _

pub returns-clause-works : goal.returns-clause-works
returns-clause-works g c =
    let was : mark c.args.self.now.marks.items c.in-Some.page ≡ Free = ap (λ (ms : List Mark). mark ms c.in-Some.page)
    (sym c.deref.ensures.value) ∙ c.in-Some.ensures.free in
    marked_works _ _ _ _ (record { disk = refl; failures = refl; root = refl; closed = refl; holds = refl }) c.put_mark.ensures.marked
    (sym (ap needs was)) (fresh_waits _) (sym (ap is_past was))

pub invariant_of-self-2-clause-cached : goal.invariant_of-self-2-clause-cached
invariant_of-self-2-clause-cached g c = carried _ _ _ _ c.args.self.now.cached (λ p held there. there) (λ h. h)
    (λ p held there. still_kept _ _ _ _ c.put_mark.ensures.marked refl p) (λ h p held there behind k within. refl)

pub returns-then-self-clause-ok : goal.returns-then-self-clause-ok
returns-then-self-clause-ok g c = tt

pub returns-then-self-clause-free : goal.returns-then-self-clause-free
returns-then-self-clause-free g c = tt

pub returns-then-self-clause-is_page : goal.returns-then-self-clause-is_page
returns-then-self-clause-is_page g c = tt

pub returns-then-self-clause-within : goal.returns-then-self-clause-within
returns-then-self-clause-within g c = tt

pub returns-then-self-clause-open : goal.returns-then-self-clause-open
returns-then-self-clause-open g c = tt

pub returns-then-self-clause-refused : goal.returns-then-self-clause-refused
returns-then-self-clause-refused g c = refl

pub returns-then-self-clause-cause : goal.returns-then-self-clause-cause
returns-then-self-clause-cause g c = c.if-self.true

pub returns-then-self-clause-closed : goal.returns-then-self-clause-closed
returns-then-self-clause-closed g c = λ is. refl

pub returns-then-self-clause-others : goal.returns-then-self-clause-others
returns-then-self-clause-others g c = record { disk = refl; failures = refl; root = refl; closed = refl; holds = refl }

pub returns-in-None-clause-ok : goal.returns-in-None-clause-ok
returns-in-None-clause-ok g c = tt

pub returns-in-None-clause-free : goal.returns-in-None-clause-free
returns-in-None-clause-free g c = tt

pub returns-in-None-clause-is_page : goal.returns-in-None-clause-is_page
returns-in-None-clause-is_page g c = tt

pub returns-in-None-clause-within : goal.returns-in-None-clause-within
returns-in-None-clause-within g c = tt

pub returns-in-None-clause-open : goal.returns-in-None-clause-open
returns-in-None-clause-open g c = tt

pub returns-in-None-clause-refused : goal.returns-in-None-clause-refused
returns-in-None-clause-refused g c = refl

pub returns-in-None-clause-closed : goal.returns-in-None-clause-closed
returns-in-None-clause-closed g c = λ is. absurd (not_closed _ c.if-self.false is)

pub returns-in-None-clause-others : goal.returns-in-None-clause-others
returns-in-None-clause-others g c = record { disk = refl; failures = refl; root = refl; closed = refl; holds = refl }

pub returns-clause-ok : goal.returns-clause-ok
returns-clause-ok g c = c.put_mark.ensures.marked

pub returns-clause-open : goal.returns-clause-open
returns-clause-open g c = c.if-self.false

pub returns-clause-refused : goal.returns-clause-refused
returns-clause-refused g c = tt

pub returns-clause-cause : goal.returns-clause-cause
returns-clause-cause g c = tt

pub returns-clause-closed : goal.returns-clause-closed
returns-clause-closed g c = λ is. absurd (not_closed _ c.if-self.false is)

pub returns-clause-others : goal.returns-clause-others
returns-clause-others g c = record { disk = refl; failures = refl; root = refl; closed = refl; holds = refl }

pub invariant_of-self-2-clause-unused : goal.invariant_of-self-2-clause-unused
invariant_of-self-2-clause-unused g c =
    unused_marked _ _ _ _ _ _ c.args.self.now.unused c.put_mark.ensures.marked (omega arith) (λ above. absurd (omega (arith, above)))
