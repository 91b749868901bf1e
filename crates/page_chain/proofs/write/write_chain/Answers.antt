use Rattle.std.proofs.Common.{◌≡◌, ◌⊎◌, ◌∙◌, ℕ, List, length, refl, ap, subst, sym, arith}
use Rattle.std.specs.Prelude.{Contains}
use Rattle.page_store.specs.Marks.{mark, free_count}
use Rattle.page_store.specs.lemmas.Works.{works_refl, works_then}
use Rattle.page_store.specs.declared.marks.Mark.{Mark}
use Rattle.page_store.specs.declared.marks.Mark.TheVariants.{Fresh, Free}
use Rattle.page_chain.specs.Frames.{AreLinked}
use Rattle.page_chain.proofs.Exits.{passed_on}
use Rattle.page_chain.proofs.TakenPages.{chain_put, taken_fails, linked_fails}
use Rattle.page_chain.proofs.write.write_chain.Goals as goal

pub returns-then-free_pages-count-clause-works : goal.returns-then-free_pages-count-clause-works
returns-then-free_pages-count-clause-works g c = works_refl _

pub returns-in_err-pages-clause-others : goal.returns-in_err-pages-clause-others
returns-in_err-pages-clause-others g c = c.take_pages.ensures.out.others

pub returns-in_err-pages-clause-works : goal.returns-in_err-pages-clause-works
returns-in_err-pages-clause-works g c = c.take_pages.ensures.out.works

pub returns-in_err-write_pages-clause-others : goal.returns-in_err-write_pages-clause-others
returns-in_err-write_pages-clause-others g c =
    let old = (g.P.Pages.store c.args.store.now).marks in
    subst (λ (ms : List Mark). (p : ℕ) → (mark ms p ≡ mark old p) ⊎ ((mark old p ≡ Free) × (mark ms p ≡ Fresh)))
    (sym c.write_pages.ensures.marks) c.take_pages.ensures.out.others

pub returns-in_err-write_pages-clause-works : goal.returns-in_err-write_pages-clause-works
returns-in_err-write_pages-clause-works g c = works_then c.take_pages.ensures.out.works c.write_pages.ensures.works

pub returns-clause-others : goal.returns-clause-others
returns-clause-others g c =
    let old = (g.P.Pages.store c.args.store.now).marks in
    subst (λ (ms : List Mark). (p : ℕ) → (mark ms p ≡ mark old p) ⊎ ((mark old p ≡ Free) × (mark ms p ≡ Fresh)))
    (sym c.write_pages.ensures.marks) c.take_pages.ensures.out.others

pub returns-clause-works : goal.returns-clause-works
returns-clause-works g c = works_then c.take_pages.ensures.out.works c.write_pages.ensures.works

pub returns-then-free_pages-count-clause-err : goal.returns-then-free_pages-count-clause-err
returns-then-free_pages-count-clause-err g c = record {
  refused = λ full. refl;
  still = λ other. refl;
  cause = omega (arith, c.if-free_pages-count.true, c.free_pages.ensures, c.pages_for-count.ensures.no_more);
}

pub returns-in_err-pages-clause-err : goal.returns-in_err-pages-clause-err
returns-in_err-pages-clause-err g c =
    passed_on _ c.from_residual.result _ c.from_residual.ensures
    (taken_fails (length c.args.content.now) (g.P.Pages.store c.args.store.now)
    (g.P.Pages.store c.take_pages.new.store) _ c.take_pages.ensures.out.closed c.in_err-pages.ensures.cause)

pub returns-in_err-write_pages-clause-err : goal.returns-in_err-write_pages-clause-err
returns-in_err-write_pages-clause-err g c =
    passed_on _ c.from_residual-in_err-write_pages.result _ c.from_residual-in_err-write_pages.ensures
    (linked_fails (length c.args.content.now) (g.P.Pages.store c.args.store.now) (g.P.Pages.store c.take_pages.new.store)
    (g.P.Pages.store c.write_pages.new.store) _
    c.take_pages.ensures.out c.in_err-write_pages.ensures.err)

pub returns-clause-ok : goal.returns-clause-ok
returns-clause-ok g c =
    let old = (g.P.Pages.store c.args.store.now).marks in
    let pages = c.in_ok-pages.pages.items in
    let taken = c.in_ok-pages.ensures.taken in
    let marks = c.write_pages.ensures.marks in
    let linked = c.in_ok-write_pages.ensures.ok in
    let is : c.deref.result.now ≡ pages = c.deref.ensures.value in
    record {
      chain = λ honest. chain_put (g.P.Pages.store c.args.store.now) (g.P.Pages.store c.take_pages.new.store) (g.P.Pages.store c.write_pages.new.store)
          c.args.content.now pages _ c.take_pages.ensures.out taken c.pages_for-count.ensures.enough c.pages_for-count.ensures.no_more
          (subst (λ (ps : List ℕ). AreLinked c.args.content.now ps (g.P.Pages.store c.take_pages.new.store)
          (g.P.Pages.store c.write_pages.new.store)) is linked) honest;
      fresh = subst (λ (ms : List Mark). (p : ℕ) → Contains pages p → mark ms p ≡ Fresh) (sym marks) taken.are;
      freed = taken.were;
      kept = subst (λ (ms : List Mark). (p : ℕ) → (mark ms p ≡ mark old p) ⊎ Contains pages p) (sym marks) taken.kept;
      few = omega (arith, ap free_count marks, c.in_ok-pages.ensures.few, c.pages_for-count.ensures.no_more);
      «open» = λ some. linked.open (omega (arith, some, ap length is, taken.many, c.pages_for-count.ensures.enough));
      closed = linked.closed ∙ c.take_pages.ensures.out.closed;
    }
