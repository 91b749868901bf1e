use Rattle.std.proofs.Common.{◌≡◌, ◌<◌, ◌≤◌, ◌∙◌, ℕ, length, Ok, Err, Result, IfOk, IfErr, refl, arith}
use Rattle.std.specs.Result.{OnErr}
use Rattle.page_store.specs.declared.fault.PageFault.{PageFault}
use Rattle.page_store.specs.declared.fault.PageFault.TheVariants.{Disk}
use Rattle.page_store.specs.declared.marks.Mark.TheVariants.{Fresh, Free}
use Rattle.page_store.specs.Causes.{NewCause}
use Rattle.page_store.specs.Frames.{PagesRefused}
use Rattle.page_store.specs.Marks.{mark, let_go, IsMarked}
use Rattle.page_store.specs.Store.{Store, StoreWorks, IsRemarked}
use Rattle.page_store.specs.lemmas.Counts.{one_fewer}
use Rattle.page_store.specs.lemmas.Frames.{refused_since}
use Rattle.page_store.specs.lemmas.Works.{works_refl, works_then}
use Rattle.btree.specs.lemmas.Causes.{WriteCause}
use Rattle.btree.specs.lemmas.Growth.{IsRenewed}
use Rattle.btree.proofs.puts.Faults.{cause_since, none_handed_out}
use Rattle.btree.proofs.puts.Replacements.{renewed_place, stays}
use Rattle.btree.proofs.puts.FreePages.{let_go_takes_none}
use Rattle.btree.proofs.put.place.renewed.Goals as goal

pub returns-then-is_fresh-clause-ok : goal.returns-then-is_fresh-clause-ok
returns-then-is_fresh-clause-ok g c =
    let store = g.P.Pages.store c.args.store.now in
    let fresh = c.is_fresh.ensures.0 c.if-is_fresh.true in
    record {
      fresh = fresh;
      is_page = c.requires.is_page;
      there = c.requires.there;
      place = stays c.args.page store fresh;
      works = works_refl store;
      closed = refl;
      takes = omega arith;
    }

-- the page was released
module _ (q : ℕ) (old mid new : Store) (released : IsMarked q (let_go (mark old.marks q)) old.marks mid.marks) (first : IsRemarked old mid)
    (works : StoreWorks old mid) where
  handed_out : (r : Result ℕ PageFault) → IfOk r (λ n. mark mid.marks n ≡ Free) → IfOk r (λ n. IsMarked n Fresh mid.marks new.marks)
      → IfOk r (λ n. 1 ≤ n) → IfOk r (λ n. n < length mid.marks) → IsRemarked mid new → StoreWorks mid new → IfOk r (IsRenewed q old new)
  handed_out (Ok n) free marked is_page there second then_works =
      let fewer = one_fewer mid.marks new.marks n marked.same_length there free marked.is marked.others in
      record {
        fresh = marked.is;
        is_page = is_page;
        there = omega (arith, there, released.same_length);
        place = renewed_place q n old mid new released first free marked second;
        works = works_then works then_works;
        closed = second.closed ∙ first.closed;
        takes = omega (arith, let_go_takes_none released, fewer);
      }
  handed_out (Err fault) free marked is_page there second then_works = tt

  refused : (r : Result ℕ PageFault) → OnErr r (new ≡ mid) → IfErr r (NewCause mid) → IfErr r (PagesRefused Disk WriteCause 1 old new)
  refused (Ok n) same cause = tt
  refused (Err fault) same cause =
      refused_since 0 works first.closed (omega (arith, let_go_takes_none released)) (omega arith) (cause_since old mid new fault works first.closed)
      (none_handed_out same cause)

pub returns-clause-ok : goal.returns-clause-ok
returns-clause-ok g c =
    let got = c.new_page.ensures in
    handed_out c.args.page (g.P.Pages.store c.args.store.now) (g.P.Pages.store c.release.new.self) (g.P.Pages.store c.new_page.new.self)
    c.release.ensures.marks c.release.ensures.others c.release.ensures.works c.new_page.result got.free got.ok got.is_page got.within got.others got.works

pub returns-clause-err : goal.returns-clause-err
returns-clause-err g c =
    refused c.args.page (g.P.Pages.store c.args.store.now) (g.P.Pages.store c.release.new.self) (g.P.Pages.store c.new_page.new.self)
    c.release.ensures.marks c.release.ensures.others c.release.ensures.works c.new_page.result c.new_page.ensures.refused c.new_page.ensures.cause
