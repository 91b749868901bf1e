use Rattle.std.proofs.Common.{◌≡◌, ◌∙◌, List, ℕ, refl, sym, subst}
use Rattle.std.proofs.lemmas.List.{get_or_default}
use Rattle.page_store.specs.Places.{kept_at}
use Rattle.page_store.proofs.CachedPages.{edited_at}
use Rattle.page_store.proofs.cache.PageCache.edit.Goals as goal

pub returns-clause-edited : goal.returns-clause-edited
returns-clause-edited g c =
    let kept = c.args.self.now.kept.items in
    let place = c.in-Some.place in
    let within = c.in-Some.ensures.there.within in
    let stood : kept_at kept place ≡ c.index-2.result.now = get_or_default kept place _ _ within ∙ sym c.index-2.ensures in
    let lent : kept_at kept place ≡ c.index_mut.result.now = get_or_default kept place _ _ within ∙ sym c.index_mut.ensures.value in
    edited_at _ _ _ _ _ _ _ c.in-Some.ensures.there c.args.self.now.apart stood refl refl
    (subst (λ (bs : List ℕ). g.E.PageEdit.edits c.args.edit.now bs c.apply.new.page) (sym lent ∙ stood) c.apply.ensures)
