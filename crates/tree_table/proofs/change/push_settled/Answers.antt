use Rattle.std.proofs.Common.{◌≡◌, ◌+◌, ◌<◌, ◌^◌, ap, sym, subst, arith}
use Rattle.retrograde.specs.Changes.{with_settled}
use Rattle.game_file.specs.declared.sizes.Sizes.{Sizes}
use Rattle.tree_table.specs.Causes.{HasNoForest, HasNoTable}
use Rattle.tree_table.specs.declared.tree.Tree.TheVariants.{Order}
use Rattle.tree_table.specs.Entries.{number_key}
use Rattle.tree_table.specs.WorkTable.{HoldsForest, HoldsTable, with_entry}
use Rattle.tree_table.proofs.Faults.{passed_on, change_refused, frame_of}
use Rattle.tree_table.proofs.Tables.{slot_of, settled_as, number_settled}
use Rattle.tree_table.proofs.change.push_settled.Goals as goal

pub returns-in_err-slot-clause-err : goal.returns-in_err-slot-clause-err
returns-in_err-slot-clause-err g c =
    passed_on _ c.from_residual.result _ c.from_residual.ensures
    (change_refused HasNoForest HasNoTable c.args.slot (g.P.Pages.store c.args.store.now) (g.P.Pages.store c.put_in.new.store)
    (λ none honest text table h. none honest text h.entries h.forest) c.in_err-slot.ensures.err)

pub returns-clause-ok : goal.returns-clause-ok
returns-clause-ok g c =
    let put = c.in_ok-slot.ensures.ok in
    let frame = frame_of put.slot in
    record {
      slot = record { packing = frame.packing; goal = frame.goal; first = frame.first; text = frame.text; packed = frame.packed };
      known = ap (λ (z : Sizes). z.counts.known) put.slot.sizes;
      table = λ honest text table h any.
          let slot = c.args.slot in
          let last = c.in_ok-slot.slot in
          let new = g.P.Pages.store c.put_in.new.store in
          let sizes : last.sizes ≡ slot.sizes = put.slot.sizes in
          let back : slot.sizes ≡ last.sizes = sym sizes in
          let key : c.number_key-key.result ≡ number_key slot.sizes.counts.settled = c.number_key-key.ensures in
          let value : c.number_key-value.result ≡ number_key c.args.number = c.number_key-value.ensures in
          let small : c.args.number < 2 ^ 32 = omega (arith, c.ranges.number) in
          let forest : HoldsForest (slot_of last.packing last.goal last.first slot.sizes last.roots) text
          (with_entry h.entries Order (number_key slot.sizes.counts.settled) (number_key c.args.number)) new =
          subst (λ (X : Type 0). X) (λ i. HoldsForest (slot_of last.packing last.goal last.first (sizes i) last.roots) text
          (with_entry h.entries Order (key i) (value i)) new)
          (put.map honest text h.entries h.forest) in
          subst (λ (X : Type 0). X) (λ i. HoldsTable
          (slot_of last.packing last.goal last.first (settled_as (back i) (slot.sizes.counts.settled + 1)) last.roots) text
          (with_settled table c.args.number) new)
          (number_settled slot text table (g.P.Pages.store c.args.store.now)
          (omega (arith, c.requires.few)) h last.packing last.goal last.first last.roots c.args.number new c.requires.settled small forest);
      written = put.written;
    }
