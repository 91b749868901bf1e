use Rattle.std.proofs.Common.{◌≡◌, ◌∙◌, ◌+◌, ◌≤◌, [], Option, IfSome, IfNone, length, refl, sym, ap, subst, arith}
use Rattle.page_store.specs.Frames.{PagesRead}
use Rattle.page_store.specs.Store.{reads}
use Rattle.retrograde.specs.Changes.{with_edge}
use Rattle.game_file.specs.declared.sizes.Sizes.{Sizes}
use Rattle.btree.specs.Answers.{TellsNew}
use Rattle.btree.specs.lemmas.Unchanged.{unchanged_reads}
use Rattle.tree_table.specs.declared.slot.TreeSlot.{TreeSlot}
use Rattle.tree_table.specs.declared.tree.Tree.TheVariants.{Edges}
use Rattle.tree_table.specs.Causes.{HasNoForest, HasNoTable}
use Rattle.tree_table.specs.Entries.{edge_key}
use Rattle.tree_table.specs.Frames.{IsPutIn}
use Rattle.tree_table.specs.Trees.{root_of}
use Rattle.tree_table.specs.WorkTable.{HoldsForest, HoldsTable, with_entry}
use Rattle.btree.specs.Entries.{find_entry}
use Rattle.tree_table.specs.lemmas.Frames.{forest_still}
use Rattle.tree_table.proofs.Faults.{passed_on, change_refused, frame_of, frame_refl, trees_read}
use Rattle.tree_table.proofs.Few.{map_few}
use Rattle.tree_table.proofs.Tables.{slot_of, edges_as, edge_put, edge_stays}
use Rattle.tree_table.proofs.change.add_edge.Goals as goal

pub returns-in_err-put-clause-err : goal.returns-in_err-put-clause-err
returns-in_err-put-clause-err g c =
    let old = g.P.Pages.store c.args.store.now in
    let new = g.P.Pages.store c.put_new_in.new.store in
    passed_on _ c.from_residual.result _ c.from_residual.ensures
    (change_refused HasNoForest HasNoTable c.args.slot old new (λ none honest text table h. none honest text h.entries h.forest) c.in_err-put.ensures.err)

pub returns-in-None-clause-ok : goal.returns-in-None-clause-ok
returns-in-None-clause-ok g c =
    let old = g.P.Pages.store c.args.store.now in
    let new = g.P.Pages.store c.put_new_in.new.store in
    let read : PagesRead old new = subst (λ (r : Option TreeSlot). IfNone r (PagesRead old new)) c.in-None.is c.in_ok-put.ensures.left in
    record {
      slot = frame_refl c.args.slot;
      known = refl;
      table = λ honest text table h any.
          let key : c.deref.result.now ≡ edge_key c.args.successor c.args.predecessor = c.deref.ensures.0 ∙ c.key_behind-key.ensures.bytes in
          let told = subst (λ (r : Option TreeSlot). TellsNew (h.entries Edges) c.deref.result.now r) c.in-None.is
          (c.in_ok-put.ensures.told honest text h.entries h.forest) in
          edge_stays c.args.slot text table old
          (omega (arith, c.requires.few)) h c.args.successor c.args.predecessor told.0 new c.requires.successor c.requires.predecessor
          (ap (find_entry (h.entries Edges)) (sym key) ∙ told.1)
          (forest_still c.args.slot text h.entries old new read.unchanged.marks (unchanged_reads old new honest read.unchanged) h.forest);
      written = trees_read read;
    }

pub returns-in-Some-clause-ok : goal.returns-in-Some-clause-ok
returns-in-Some-clause-ok g c =
    let slot = c.args.slot in
    let last = c.in-Some.next in
    let old = g.P.Pages.store c.args.store.now in
    let new = g.P.Pages.store c.put_new_in.new.store in
    let put : IsPutIn slot Edges c.deref.result.now [] old new last =
    subst (λ (r : Option TreeSlot). IfSome r (IsPutIn slot Edges c.deref.result.now [] old new)) c.in-Some.is c.in_ok-put.ensures.ok in
    let frame = frame_of put.slot in
    record {
      slot = record { packing = frame.packing; goal = frame.goal; first = frame.first; text = frame.text; packed = frame.packed };
      known = ap (λ (z : Sizes). z.counts.known) put.slot.sizes;
      table = λ honest text table h any.
          let key : c.deref.result.now ≡ edge_key c.args.successor c.args.predecessor = c.deref.ensures.0 ∙ c.key_behind-key.ensures.bytes in
          let none = subst (λ (r : Option TreeSlot). TellsNew (h.entries Edges) c.deref.result.now r) c.in-Some.is
          (c.in_ok-put.ensures.told honest text h.entries h.forest) in
          let sizes : last.sizes ≡ slot.sizes = put.slot.sizes in
          let back : slot.sizes ≡ last.sizes = sym sizes in
          let tree = h.forest.forest.trees Edges in
          let few : length (h.entries Edges) ≤ 4290772992 =
          map_few tree.widths (length old.marks) (root_of slot.roots Edges) (h.forest.pages Edges) (h.entries Edges) (reads old)
          (g.met.P.Pages.sound c.args.store.now).few tree.map in
          let more : slot.sizes.edges + 1 ≡ c.saturating_add-next.result =
          omega (arith, c.saturating_add-next.ensures, few, h.spelled.edge_count, ap (λ (s : Sizes). s.edges) sizes) in
          let forest : HoldsForest (slot_of last.packing last.goal last.first slot.sizes last.roots) text
          (with_entry h.entries Edges (edge_key c.args.successor c.args.predecessor) []) new =
          subst (λ (X : Type 0). X) (λ i. HoldsForest (slot_of last.packing last.goal last.first (sizes i) last.roots) text
          (with_entry h.entries Edges (key i) []) new) (put.map honest text h.entries h.forest) in
          subst (λ (X : Type 0). X) (λ i. HoldsTable
          (slot_of last.packing last.goal last.first (edges_as (back i) (more i)) last.roots) text
          (with_edge table c.args.successor c.args.predecessor) new)
          (edge_put slot text table old (omega (arith, c.requires.few)) h last.packing last.goal last.first last.roots c.args.successor c.args.predecessor new c.requires.successor c.requires.predecessor
          (ap (find_entry (h.entries Edges)) (sym key) ∙ none) forest);
      written = put.written;
    }

pub returns-in-Some-clause-counts : goal.returns-in-Some-clause-counts
returns-in-Some-clause-counts g c =
    let slot = c.args.slot in
    let old = g.P.Pages.store c.args.store.now in
    let new = g.P.Pages.store c.put_new_in.new.store in
    let put : IsPutIn slot Edges c.deref.result.now [] old new c.in-Some.next =
    subst (λ (r : Option TreeSlot). IfSome r (IsPutIn slot Edges c.deref.result.now [] old new)) c.in-Some.is c.in_ok-put.ensures.ok in
    ap (λ (z : Sizes). z.counts) put.slot.sizes
