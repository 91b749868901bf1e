use Rattle.std.proofs.Common.{◌≡◌, ◌∙◌, ◌+◌, refl, ap, sym, subst, length, arith}
use Rattle.retrograde.specs.Changes.{fresh_record, with_position}
use Rattle.game_file.specs.Bytes.{IsCell}
use Rattle.tree_table.specs.declared.tree.Roots.{Roots}
use Rattle.tree_table.specs.declared.tree.Tree.TheVariants.{Positions, Records}
use Rattle.tree_table.specs.Trees.{root_of}
use Rattle.tree_table.specs.Entries.{number_key}
use Rattle.tree_table.specs.WorkTable.{HoldsForest, HoldsTable, with_entry}
use Rattle.page_store.specs.lemmas.Frames.{refused_within}
use Rattle.sector_disk.specs.lemmas.Moments.{still_honest}
use Rattle.tree_table.specs.Causes.{HasNoForest, HasNoTable}
use Rattle.tree_table.proofs.Faults.{passed_on, change_refused, frame_then, refused_later, trees_then}
use Rattle.tree_table.proofs.Tables.{plain_cell, slot_of, known_as, position_added}
use Rattle.tree_table.proofs.change.add_position.Goals as goal

pub returns-in_err-slot-clause-err : goal.returns-in_err-slot-clause-err
returns-in_err-slot-clause-err g c =
    passed_on _ c.from_residual.result _ c.from_residual.ensures
    (refused_within (change_refused HasNoForest HasNoTable c.args.slot (g.P.Pages.store c.args.store.now) (g.P.Pages.store c.put_in.new.store)
    (λ none honest text table h. none honest text h.entries h.forest) c.in_err-slot.ensures.err) (omega arith))

pub returns-in_err-slot-clause-full : goal.returns-in_err-slot-clause-full
returns-in_err-slot-clause-full g c = λ positions records.
    passed_on _ c.from_residual.result _ c.from_residual.ensures (λ is. let none = c.in_err-slot.ensures.full positions is in omega (arith, none))

pub returns-in_err-slot-2-clause-err : goal.returns-in_err-slot-2-clause-err
returns-in_err-slot-2-clause-err g c =
    let one = c.in_ok-slot.ensures.ok in
    passed_on _ c.from_residual-in_err-slot-2.result _ c.from_residual-in_err-slot-2.ensures
    (refused_later HasNoForest HasNoTable c.args.slot c.in_ok-slot.slot (g.P.Pages.store c.args.store.now)
    (g.P.Pages.store c.put_in.new.store) (g.P.Pages.store c.put_in-2.new.store)
    one.written (omega arith) (λ none honest text table h. none (still_honest one.written.works.goes_on honest) text _
    (one.map honest text h.entries h.forest)) c.in_err-slot-2.ensures.err)

pub returns-in_err-slot-2-clause-full : goal.returns-in_err-slot-2-clause-full
returns-in_err-slot-2-clause-full g c = λ positions records.
    let one = c.in_ok-slot.ensures.ok in
    let other : c.in_ok-slot.slot.roots.records ≡ 0 = ap (λ (r : Roots). root_of r Records) one.roots ∙ records in
    passed_on _ c.from_residual-in_err-slot-2.result _ c.from_residual-in_err-slot-2.ensures
    (λ is. let none = c.in_err-slot-2.ensures.full other is in let first = one.first positions in omega (arith, none, first))

pub returns-clause-ok : goal.returns-clause-ok
returns-clause-ok g c =
    let one = c.in_ok-slot.ensures.ok in
    let two = c.in_ok-slot-2.ensures.ok in
    let frame = frame_then one.slot two.slot in
    record {
      slot = record { packing = frame.packing; goal = frame.goal; first = frame.first; text = frame.text; packed = frame.packed };
      known = refl;
      table = λ honest text table h unknown.
          let slot = c.args.slot in
          let one = c.in_ok-slot.ensures.ok in
          let two = c.in_ok-slot-2.ensures.ok in
          let last = c.in_ok-slot-2.slot in
          let x = c.args.packed.now.items in
          let new = g.P.Pages.store c.put_in-2.new.store in
          let sizes : last.sizes ≡ slot.sizes = two.slot.sizes ∙ one.slot.sizes in
          let back : slot.sizes ≡ last.sizes = sym sizes in
          let key : c.number_key-key.result ≡ number_key slot.sizes.counts.known = c.number_key-key.ensures in
          let position : c.deref.result.now ≡ x = c.deref.ensures.0 in
          let cell : c.deref-2.result.now ≡ c.cell_bytes-cell.result.items = c.deref-2.ensures.0 in
          let long : length x ≡ slot.sizes.packed = c.requires.long in
          let is : IsCell slot.sizes.packed c.cell_bytes-cell.result.items (x, fresh_record) =
          subst (λ (X : Type 0). X) (λ i. IsCell (long i) c.cell_bytes-cell.result.items (x, c.fresh.ensures i))
          (plain_cell (length x) c.cell_bytes-cell.result.items (x, c.fresh.result) c.cell_bytes-cell.ensures) in
          let forest : HoldsForest (slot_of last.packing last.goal last.first slot.sizes last.roots) text
          (with_entry (with_entry h.entries Positions x (number_key slot.sizes.counts.known)) Records
          (number_key slot.sizes.counts.known) c.cell_bytes-cell.result.items) new =
          subst (λ (X : Type 0). X)
          (λ i. HoldsForest (slot_of last.packing last.goal last.first (sizes i) last.roots) text
          (with_entry (with_entry h.entries Positions (position i) (key i)) Records (key i) (cell i)) new)
          (two.map (still_honest one.written.works.goes_on honest) text
          (with_entry h.entries Positions c.deref.result.now c.number_key-key.result) (one.map honest text h.entries h.forest)) in
          subst (λ (X : Type 0). X) (λ i. HoldsTable
          (slot_of last.packing last.goal last.first (known_as (back i) (slot.sizes.counts.known + 1)) last.roots) text (with_position table x) new)
          (position_added slot text table (g.P.Pages.store c.args.store.now)
          (omega (arith, c.requires.room)) h last.packing last.goal last.first last.roots x c.cell_bytes-cell.result.items new
          (omega (arith, c.requires.room)) unknown is forest);
      written = trees_then one.written two.written (omega arith);
    }
