use Rattle.std.proofs.Common.{◌≡◌, false, sym, subst}
use mathlib.Core.Logic.{∥∥₁_elim, ∥∥₁_prop}
use Rattle.tree_table.specs.declared.slot.TreeSlot.{TreeSlot}
use Rattle.tree_table.specs.KeptTrees.{StandsFor, IsSizedSlot, slot_or_bare}
use Rattle.tree_table.specs.WorkTable.{work_of, HoldsWork}
use Rattle.tree_table.proofs.Commits.{sized_slot, stands_holds}
use Rattle.tree_table.proofs.working.TreeTable.standing.Goals as goal

pub invariant_of-result : goal.invariant_of-result
invariant_of-result g c =
    let game = c.args.game.now in
    let text = c.args.text.items in
    let store = g.P.Pages.store c.args.store in
    let is : slot_or_bare game ≡ c.slot_or_bare.result = sym c.slot_or_bare.ensures in
    let sized : IsSizedSlot c.slot_or_bare.result = subst IsSizedSlot is (sized_slot game c.requires.sized) in
    record {
      reads = tt;
      some = sized.some;
      short = sized.short;
      few = sized.few;
      points = sized.points;
      holds = λ honest.
          ∥∥₁_elim (c.requires.stands honest.disk) ∥∥₁_prop (λ (stands : StandsFor game text store).
          ∣ subst (λ (s : TreeSlot). HoldsWork (work_of s text false store)) is (stands_holds game text store c.requires.sized c.requires.calm stands) ∣₁);
      long = tt;
      last = λ honest. tt;
    }
