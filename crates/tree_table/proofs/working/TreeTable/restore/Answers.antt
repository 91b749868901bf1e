use Rattle.std.proofs.Common.{◌≡◌, false, refl, sym, subst}
use mathlib.Core.Logic.{∥∥₁_elim, ∥∥₁_prop}
use Rattle.tree_table.specs.declared.slot.TreeSlot.{TreeSlot}
use Rattle.tree_table.specs.KeptTrees.{StandsFor, IsSizedSlot, slot_or_bare}
use Rattle.tree_table.specs.WorkTable.{work_of, HoldsWork}
use Rattle.tree_table.specs.lemmas.StandingTable.{was_honest, discarded_still, discarded_calm, still_stands_for}
use Rattle.tree_table.specs.lemmas.Versions.{remarked_keeps_holds}
use Rattle.tree_table.proofs.Commits.{sized_slot, stands_holds}
use Rattle.tree_table.proofs.working.TreeTable.restore.Goals as goal

pub invariant_of-self : goal.invariant_of-self
invariant_of-self g c =
    let game = c.args.game.now in
    let text = c.args.self.now.text.items in
    let old = g.P.Pages.store c.args.self.now.store in
    let new = g.P.Pages.store c.discard.new.self in
    let is : slot_or_bare game ≡ c.slot_or_bare-self.result = sym c.slot_or_bare-self.ensures in
    let sized : IsSizedSlot c.slot_or_bare-self.result = subst IsSizedSlot is (sized_slot game c.requires.sized) in
    let still = discarded_still old new c.discard.ensures.marks c.discard.ensures.others in
    let calm = discarded_calm old new c.discard.ensures.marks c.requires.sealed in
    record {
      reads = tt;
      some = sized.some;
      short = sized.short;
      few = sized.few;
      points = sized.points;
      holds = λ honest.
          let was = was_honest still.goes_on honest.disk in
          ∥∥₁_elim (c.requires.stands was) ∥∥₁_prop (λ (stands : StandsFor game text old).
          ∣ subst (λ (s : TreeSlot). HoldsWork (work_of s text false new)) is
          (stands_holds game text new c.requires.sized calm (still_stands_for game text old new was still stands)) ∣₁);
      long = tt;
      last = λ honest. tt;
    }

pub returns : goal.returns
returns g c =
    let old = g.P.Pages.store c.args.self.now.store in
    let new = g.P.Pages.store c.discard.new.self in
    let told = c.discard.ensures in
    record {
      slot = c.slot_or_bare-self.ensures;
      text = refl;
      torn = refl;
      still = discarded_still old new told.marks told.others;
      held = remarked_keeps_holds old new told.marks.same_length told.others;
      calm = discarded_calm old new told.marks c.requires.sealed;
      marks = told.marks;
      others = told.others;
    }
