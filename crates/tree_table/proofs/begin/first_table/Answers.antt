use Rattle.std.proofs.Common.{◌≡◌, ◌+◌, ◌<◌, inr, ℕ, Some, length, IsTrue, sym, ◌∙◌, ap, subst, arith}
use Rattle.sector_disk.specs.lemmas.Moments.{still_honest}
use Rattle.page_store.specs.Marks.{free_count}
use Rattle.page_store.specs.Store.{reads}
use Rattle.page_store.specs.lemmas.Works.{works_then}
use Rattle.page_chain.specs.Chain.{IsChain, first_of}
use Rattle.table.specs.declared.fault.TableFault.TheVariants.{Disk, TableFull}
use Rattle.tree_table.specs.declared.slot.TreeSlot.{TreeSlot}
use Rattle.std.specs.Prelude.{slice_get}
use Rattle.std.proofs.lemmas.Result.{IfOk-weaker}
use Rattle.page_store.specs.Frames.{PagesRefused}
use Rattle.table.specs.declared.fault.TableFault.{TableFault}
use Rattle.retrograde.specs.Changes.{with_position}
use Rattle.rbg_game.specs.Goals.{points_of}
use Rattle.game_file.specs.Fields.{goal_numbered}
use Rattle.tree_table.specs.Causes.{ChangeCause, HasNoTable}
use Rattle.tree_table.specs.Frames.{IsChanged}
use Rattle.tree_table.specs.lemmas.Faults.{fault_of}
use Rattle.tree_table.specs.lemmas.FirstTable.{IsFirstTable, IsNoFirstTable}
use Rattle.tree_table.specs.WorkTable.{text_slot, HoldsTable}
use Rattle.table.specs.Records.{nothing}
use Rattle.tree_table.proofs.Bare.{text_holds}
use Rattle.tree_table.proofs.FirstTable.{add_fails, chain_fails, on_error}
use Rattle.tree_table.specs.lemmas.StandingTable.{was_honest}
use Rattle.tree_table.proofs.begin.first_table.Given.{Over}
use Rattle.tree_table.proofs.begin.first_table.Goals as goal

-- the text is on its pages, and no position is there
chain_held : (g : Over) (c : goal.After-drop-pages g) → IsTrue (g.P.Pages.store c.args.store.now).disk.honest
    → HoldsTable c.text_slot-slot.result c.args.text.now nothing (g.P.Pages.store c.write_chain.new.store)
chain_held g c honest =
    let text = c.args.text.now in
    let mid = g.P.Pages.store c.write_chain.new.store in
    let told = c.in-Ok.ensures.ok in
    let pages = c.in-Ok.pages.items in
    let first_is : first_of pages ≡ c.first_page.result = sym (c.first_page.ensures ∙ ap first_of c.deref.ensures.value) in
    let long_is : length c.args.start.now.items ≡ c.len.result = sym c.len.ensures.value in
    let is : text_slot c.args.packing c.number_of_goal.result (first_of pages) (length text) (length c.args.start.now.items) ≡ c.text_slot-slot.result =
    (λ i. text_slot c.args.packing c.number_of_goal.result (first_is i) (length text) (long_is i)) ∙ sym c.text_slot-slot.ensures in
    subst (λ (s : TreeSlot). HoldsTable s text nothing mid) is
    (text_holds c.args.packing c.number_of_goal.result (first_of pages) (length text)
    (length c.args.start.now.items) text pages mid c.requires.some (omega (arith, c.len.ensures.fits, c.len.ensures.value))
    (subst (λ (n : ℕ). IsChain n (first_of pages) pages text (reads mid)) (sym c.write_chain.ensures.works.same_pages) (told.chain honest))
    (λ p here. inr (told.fresh p here)))

pub returns-clause-ok : goal.returns-clause-ok
returns-clause-ok g c =
    let old = g.P.Pages.store c.args.store.now in
    let mid = g.P.Pages.store c.write_chain.new.store in
    let new = g.P.Pages.store c.add_position.new.store in
    let text = c.args.text.now in
    let x = c.args.start.now.items in
    let is = c.text_slot-slot.ensures in
    IfOk-weaker c.add_position.result
    (IsChanged 98 (c.text_slot-slot.result.sizes.counts.known + 1) (λ table. (i : ℕ) → slice_get table.positions i ≡ Some x → ⊥)
    (λ table. with_position table x)
    c.text_slot-slot.result mid new)
    (IsFirstTable text c.args.packing (points_of c.args.goal) x old new)
    (λ slot it. record {
      table = λ honest.
          it.table (still_honest c.write_chain.ensures.works.goes_on honest) text nothing (chain_held g c honest) (λ i got. absurd (cc));
      long = it.slot.text ∙ ap (λ (s : TreeSlot). s.sizes.text) is;
      packing = it.slot.packing ∙ ap (λ (s : TreeSlot). s.packing) is;
      number = it.slot.goal ∙ ap (λ (s : TreeSlot). s.goal) is ∙ c.number_of_goal.ensures.is;
      goal = ap goal_numbered (it.slot.goal ∙ ap (λ (s : TreeSlot). s.goal) is) ∙ c.number_of_goal.ensures.back;
      sized = record {
        some = omega (arith, it.slot.packed, ap (λ (s : TreeSlot). s.sizes.packed) is, c.requires.some, c.len.ensures.value);
        short = omega (arith, it.slot.packed, ap (λ (s : TreeSlot). s.sizes.packed) is, c.len.ensures.value);
        few = omega (arith, it.known, ap (λ (s : TreeSlot). s.sizes.counts.known) is);
        points = omega (arith, it.slot.goal, ap (λ (s : TreeSlot). s.goal) is, c.number_of_goal.ensures.few);
      };
      works = works_then c.write_chain.ensures.works it.written.works;
      still = it.written.still ∙ c.in-Ok.ensures.ok.closed;
    }) c.add_position.ensures.ok

pub add_position-requires-clause-long : goal.add_position-requires-clause-long
add_position-requires-clause-long g c = sym (ap (λ (s : TreeSlot). s.sizes.packed) c.text_slot-slot.ensures ∙ c.len.ensures.value)

pub returns-in-Err-clause-err : goal.returns-in-Err-clause-err
returns-in-Err-clause-err g c =
    let told = c.in-Err.ensures.err in
    subst (λ (f : TableFault). IsNoFirstTable (length c.args.text.now) (g.P.Pages.store c.args.store.now)
    (g.P.Pages.store c.write_chain.new.store) f) (sym c.table_fault.ensures)
    (record {
      works = c.write_chain.ensures.works;
      still = λ other. told.still (λ disk. other (ap fault_of disk));
      cause = chain_fails (length c.args.text.now) (g.P.Pages.store c.args.store.now) (g.P.Pages.store c.write_chain.new.store) _ told.cause;
    })

pub returns-clause-err : goal.returns-clause-err
returns-clause-err g c =
    let old = g.P.Pages.store c.args.store.now in
    let mid = g.P.Pages.store c.write_chain.new.store in
    let new = g.P.Pages.store c.add_position.new.store in
    let long = length c.args.text.now in
    let slot = c.text_slot-slot.result in
    let wrote = c.write_chain.ensures.works in
    let chain = c.in-Ok.ensures.ok in
    on_error (λ fault. fault ≡ TableFull → free_count mid.marks < 2) (PagesRefused Disk (ChangeCause HasNoTable slot) 98 mid new) (IsNoFirstTable long old new)
    c.add_position.result
    (λ fault full it. record {
      works = works_then wrote it.works;
      still = λ other. it.still other ∙ chain.closed;
      cause = add_fails long slot old mid new fault wrote chain.closed
          (λ honest none. none honest c.args.text.now nothing (chain_held g c (was_honest wrote.goes_on honest))) chain.few full it.cause;
    })
    (c.add_position.ensures.full (ap (λ (s : TreeSlot). s.roots.positions) c.text_slot-slot.ensures)
    (ap (λ (s : TreeSlot). s.roots.records) c.text_slot-slot.ensures))
    c.add_position.ensures.err
