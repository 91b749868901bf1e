use Rattle.std.proofs.Common.{◌≡◌, ◌∙◌, ap, refl, sym, arith}
use Rattle.std.proofs.lemmas.List.{get_or_default}
use Rattle.page_store.specs.declared.marks.Mark.TheVariants.{Committed}
use Rattle.page_store.specs.Marks.{mark, needs, is_past, let_go}
use Rattle.page_store.proofs.Soundness.{marked_works, marked_sound, let_go_needs, let_go_waits, let_go_past}
use Rattle.page_store.proofs.CachedPages.{carried, marked_kept}
use Rattle.page_store.proofs.Unused.{unused_marked}
use Rattle.page_store.proofs.store.PageStorePages.release.Goals as goal

pub returns-clause-works : goal.returns-clause-works
returns-clause-works g c =
    let is : c.let_go-now.result ≡ let_go (mark c.args.self.now.marks.items c.args.page) =
    c.let_go-now.ensures ∙ ap let_go (c.index.ensures ∙ get_or_default _ _ _ Committed c.requires.within) in
    marked_works _ _ _ _ (record { disk = refl; failures = refl; root = refl; closed = refl; holds = refl }) c.put_mark.ensures.marked
    (ap needs is ∙ let_go_needs _) (λ waits. let_go_waits _ (sym is ∙ waits)) (ap is_past is ∙ let_go_past _)

pub invariant_of-self : goal.invariant_of-self
invariant_of-self g c =
    let is : c.let_go-now.result ≡ let_go (mark c.args.self.now.marks.items c.args.page) =
    c.let_go-now.ensures ∙ ap let_go (c.index.ensures ∙ get_or_default _ _ _ Committed c.requires.within) in
    record {
      sound = marked_sound _ _ _ _ (record {
        disk = refl;
        failures = refl;
        root = refl;
        closed = refl;
        holds = refl;
      }) c.put_mark.ensures.marked (ap needs is ∙ let_go_needs _) (λ waits. let_go_waits _ (sym is ∙ waits))
          (ap is_past is ∙ let_go_past _) c.args.self.now.sound
          (omega (arith, c.requires.is_page));
      blocks = c.put_mark.ensures.noted;
      unused = unused_marked _ _ _ _ _ _ c.args.self.now.unused c.put_mark.ensures.marked (omega arith)
          (λ above. is ∙ ap let_go (c.args.self.now.unused.each c.args.page above c.requires.within));
      cached = carried _ _ _ _ c.args.self.now.cached (λ p held there. (c.forget.ensures p held there).1) (λ h. h)
          (λ p held there. marked_kept _ _ _ _ c.put_mark.ensures.marked p (c.forget.ensures p held there).0)
          (λ h p held there behind k within. refl);
    }
