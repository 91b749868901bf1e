use Rattle.std.proofs.Common.{◌≡◌, ◌∙◌, length, sym, ap, subst, arith}
use Rattle.retrograde.specs.Changes.{with_record}
use Rattle.retrograde.specs.declared.records.Counts.{Counts}
use Rattle.game_file.specs.declared.sizes.Sizes.{Sizes}
use Rattle.game_file.specs.Bytes.{IsCell}
use Rattle.tree_table.specs.declared.tree.Tree.TheVariants.{Records}
use Rattle.tree_table.specs.Causes.{HasNoForest, HasNoTable}
use Rattle.tree_table.specs.Entries.{number_key}
use Rattle.tree_table.specs.WorkTable.{HoldsForest, HoldsTable, with_entry}
use Rattle.tree_table.specs.lemmas.Slots.{counts_with}
use Rattle.tree_table.proofs.Faults.{passed_on, change_refused, frame_of}
use Rattle.tree_table.proofs.Tables.{plain_cell, plain_long, slot_of, counted_as, record_set}
use Rattle.tree_table.proofs.change.set_record.Goals as goal

pub put_in-requires-clause-value : goal.put_in-requires-clause-value
put_in-requires-clause-value g c =
    omega (arith, ap length c.deref.ensures.0, plain_long _ _ _ c.cell_bytes-cell.ensures, c.requires.long)

pub returns-in_err-slot-clause-err : goal.returns-in_err-slot-clause-err
returns-in_err-slot-clause-err g c =
    passed_on _ c.from_residual.result _ c.from_residual.ensures
    (change_refused HasNoForest HasNoTable c.args.slot (g.P.Pages.store c.args.store.now) (g.P.Pages.store c.put_in.new.store)
    (λ none honest text table h. none honest text h.entries h.forest) c.in_err-slot.ensures.err)

pub returns-clause-ok : goal.returns-clause-ok
returns-clause-ok g c =
    let put = c.in_ok-slot.ensures.ok in
    let frame = frame_of put.slot in
    record {
      slot = record { packing = frame.packing; goal = frame.goal; first = frame.first; text = frame.text; packed = frame.packed };
      known = ap (λ (n : Counts). n.known) c.counts_with-slot.ensures ∙ ap (λ (z : Sizes). z.counts.known) put.slot.sizes;
      table = λ honest text table h it.
          let slot = c.args.slot in
          let last = c.in_ok-slot.slot in
          let old = g.P.Pages.store c.args.store.now in
          let new = g.P.Pages.store c.put_in.new.store in
          let was = c.args.was.now in
          let x = was.position.items in
          let sizes : last.sizes ≡ slot.sizes = put.slot.sizes in
          let back : slot.sizes ≡ last.sizes = sym sizes in
          let key : c.number_key-key.result ≡ number_key c.args.number = c.number_key-key.ensures in
          let cell : c.deref.result.now ≡ c.cell_bytes-cell.result.items = c.deref.ensures.0 in
          let long : length x ≡ slot.sizes.packed = c.requires.long in
          let is : IsCell slot.sizes.packed c.cell_bytes-cell.result.items (x, c.args.kept) =
          subst (λ (X : Type 0). X) (λ i. IsCell (long i) c.cell_bytes-cell.result.items (x, c.args.kept))
          (plain_cell (length x) c.cell_bytes-cell.result.items (x, c.args.kept) c.cell_bytes-cell.ensures) in
          let forest : HoldsForest (slot_of last.packing last.goal last.first slot.sizes last.roots) text
          (with_entry h.entries Records (number_key c.args.number) c.cell_bytes-cell.result.items) new =
          subst (λ (X : Type 0). X) (λ i. HoldsForest (slot_of last.packing last.goal last.first (sizes i) last.roots) text
          (with_entry h.entries Records (key i) (cell i)) new)
          (put.map honest text h.entries h.forest) in
          let counts : counts_with slot.sizes.counts was.kept.state c.args.kept.state ≡ c.counts_with-slot.result =
          sym (c.counts_with-slot.ensures ∙ (λ i. counts_with (sizes i).counts was.kept.state c.args.kept.state)) in
          subst (λ (X : Type 0). X) (λ i. HoldsTable
          (slot_of last.packing last.goal last.first (counted_as (back i) (counts i)) last.roots) text (with_record table c.args.number c.args.kept) new)
          (record_set slot text table old (omega (arith, c.requires.few)) h last.packing last.goal last.first last.roots c.args.number x c.cell_bytes-cell.result.items was.kept c.args.kept new c.requires.known
          it.position it.kept is forest);
      written = put.written;
    }
