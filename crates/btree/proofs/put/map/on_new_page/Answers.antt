use Rattle.std.proofs.Common.{◌≡◌, ◌≤◌, ◌+◌, ◌*◌, ◌∙◌, ◌∷◌, [], ℕ, List, length, refl, ap, subst, arith}
use Rattle.sector_disk.specs.lemmas.Moments.{still_honest}
use Rattle.page_store.specs.Causes.{PageWriteCause}
use Rattle.page_store.specs.declared.fault.PageFault.{PageFault}
use Rattle.page_store.specs.declared.fault.PageFault.TheVariants.{TableFull}
use Rattle.page_store.specs.declared.marks.Mark.{Mark}
use Rattle.page_store.specs.Marks.{free_count}
use Rattle.page_store.specs.Store.{Store}
use Rattle.page_store.specs.lemmas.Works.{works_then}
use Rattle.btree.specs.declared.page.kind.Kind.{Kind}
use Rattle.btree.specs.declared.page.widths.Widths.{Widths}
use Rattle.btree.specs.Page.{behind_of, item_width, items_of}
use Rattle.page_store.specs.lemmas.Frames.{refused_within}
use Rattle.btree.proofs.puts.Faults.{passed_on, none_handed_out, refused_after}
use Rattle.btree.proofs.pages.ItemBytes.{mul-mono, narrow}
use Rattle.btree.proofs.puts.Replacements.{one_contains, take_none, take_more, take_wrote}
use Rattle.btree.proofs.puts.FreePages.{one_taken}
use Rattle.btree.proofs.put.map.on_new_page.Goals as goal

-- few items fit on a page
few_fit : (w : Widths) (kind : Kind) (count : ℕ) (bytes : List ℕ) → count ≤ 2 → length bytes ≡ count * item_width w kind → length bytes ≤ 4092
few_fit w kind count bytes few whole =
    let less = mul-mono count 2 (item_width w kind) few in
    omega (arith, less, whole, narrow w kind)

pub write_on-requires-clause-fresh : goal.write_on-requires-clause-fresh
write_on-requires-clause-fresh g c =
    c.in_ok-page.ensures.ok.is

pub write_on-requires-clause-enough : goal.write_on-requires-clause-enough
write_on-requires-clause-enough g c =
    c.requires.enough

pub write_on-requires-clause-whole : goal.write_on-requires-clause-whole
write_on-requires-clause-whole g c =
    ap length c.deref.ensures.0 ∙ c.requires.whole

pub write_on-requires-clause-fits : goal.write_on-requires-clause-fits
write_on-requires-clause-fits g c =
    few_fit c.args.widths c.args.kind c.args.items.now.count c.deref.result.now c.requires.few (ap length c.deref.ensures.0 ∙ c.requires.whole)

-- a page that was handed out is written without another one
never_full : (old new : Store) (fault : PageFault) → PageWriteCause old new fault → fault ≡ TableFull → ⊥
never_full old new fault cause is = subst (λ (f : PageFault). PageWriteCause old new f) is cause

pub returns-in_err-page-clause-err : goal.returns-in_err-page-clause-err
returns-in_err-page-clause-err g c =
    passed_on _ c.from_residual.result _ c.from_residual.ensures
    (refused_within (none_handed_out c.in_err-page.ensures.refused c.in_err-page.ensures.cause) (omega arith))

pub returns-in_err-page-clause-refused : goal.returns-in_err-page-clause-refused
returns-in_err-page-clause-refused g c = passed_on _ c.from_residual.result _ c.from_residual.ensures (λ full. c.in_err-page.ensures.refused)

pub returns-in_err-write_on-clause-err : goal.returns-in_err-write_on-clause-err
returns-in_err-write_on-clause-err g c =
    let got = c.in_ok-page.ensures in
    passed_on _ c.from_residual-in_err-write_on.result _ c.from_residual-in_err-write_on.ensures
    (refused_after 1 got.works got.others.closed (omega (arith, one_taken got.ok got.free got.within)) (omega arith) c.in_err-write_on.ensures.err)

pub returns-in_err-write_on-clause-refused : goal.returns-in_err-write_on-clause-refused
returns-in_err-write_on-clause-refused g c =
    let store = g.P.Pages.store in
    passed_on _ c.from_residual-in_err-write_on.result _ c.from_residual-in_err-write_on.ensures
    (λ full. absurd (never_full (store c.new_page.new.self) (store c.write_on.new.store) _ c.in_err-write_on.ensures.err.cause full))

pub returns-clause-first : goal.returns-clause-first
returns-clause-first g c =
    let got = c.in_ok-page.ensures in
    ap (λ (ms : List Mark). free_count ms + 1) c.in_ok-write_on.ensures.ok.marks ∙ one_taken got.ok got.free got.within

pub returns-clause-ok : goal.returns-clause-ok
returns-clause-ok g c =
    let store = g.P.Pages.store in
    let old = store c.args.store.now in
    let mid = store c.new_page.new.self in
    let new = store c.write_on.new.store in
    let page = c.in_ok-page.page in
    let got = c.in_ok-page.ensures in
    let wrote = c.in_ok-write_on.ensures.ok in
    record {
      written = record {
        works = works_then got.works wrote.works;
        «open» = wrote.open;
        takes = omega (arith, one_taken got.ok got.free got.within, ap free_count wrote.marks);
      };
      is_page = got.is_page;
      there = got.within;
      place = take_wrote [] (page ∷ []) page old mid new (take_more [] [] page old old mid (take_none old) got.free got.ok got.others)
          (one_contains page page refl) got.works wrote.others wrote.marks;
      form = λ honest. wrote.form (still_honest got.works.goes_on honest);
      items = λ honest.
          wrote.items (still_honest got.works.goes_on honest)
          ∙ ap (items_of c.args.widths.key (behind_of c.args.widths c.args.kind) c.args.items.now.count) c.deref.ensures.0;
    }
