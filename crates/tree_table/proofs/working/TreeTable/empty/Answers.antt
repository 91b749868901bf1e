use Rattle.std.proofs.Common.{◌≡◌, ◌≤◌, ◌^◌, ℕ, List, [], refl, sym, ◌∙◌, ap, subst, arith}
use Rattle.page_store.specs.Store.{reads}
use Rattle.tree_table.specs.declared.slot.TreeSlot.{TreeSlot}
use Rattle.tree_table.specs.Spelled.{table_in}
use Rattle.tree_table.specs.WorkTable.{bare_slot, HoldsTable}
use Rattle.table.specs.Records.{nothing}
use Rattle.tree_table.specs.lemmas.SpelledTable.{table_is}
use Rattle.tree_table.proofs.Bare.{bare_holds}
use Rattle.tree_table.proofs.HeldTable.{holds_itself}
use Rattle.tree_table.proofs.working.TreeTable.empty.Goals as goal

pub invariant_of-result : goal.invariant_of-result
invariant_of-result g c =
    let store = g.P.Pages.store c.args.store in
    let few : 0 ≤ 2 ^ 24 = omega arith in
    let none : 0 ≤ 1000000 = omega arith in
    let is : bare_slot c.args.packed ≡ c.bare_slot.result = sym c.bare_slot.ensures in
    record {
      reads = tt;
      some = subst (λ (s : TreeSlot). 1 ≤ s.sizes.packed) is c.requires.some;
      short = subst (λ (s : TreeSlot). s.sizes.packed ≤ 240) is c.requires.short;
      few = subst (λ (s : TreeSlot). s.sizes.counts.known ≤ 2 ^ 24) is few;
      points = subst (λ (s : TreeSlot). s.goal ≤ 1000000) is none;
      holds = λ honest.
          ∣ holds_itself c.bare_slot.result c.new.result.items nothing store (subst (λ (s : TreeSlot). s.sizes.counts.known ≤ 2 ^ 24) is few)
          (subst (λ (s : TreeSlot). HoldsTable s c.new.result.items nothing store) is
          (subst (λ (x : List ℕ). HoldsTable (bare_slot c.args.packed) x nothing store) (sym c.new.ensures.items)
          (bare_holds c.args.packed store c.requires.some c.requires.short))) ∣₁;
      long = tt;
      last = λ honest. tt;
    }

pub returns-clause-nothing : goal.returns-clause-nothing
returns-clause-nothing g c = λ honest.
    let store = g.P.Pages.store c.args.store in
    let few : 0 ≤ 2 ^ 24 = omega arith in
    ap (λ (s : TreeSlot). table_in s (reads store)) c.bare_slot.ensures
    ∙ table_is (bare_slot c.args.packed) [] nothing store few (bare_holds c.args.packed store c.requires.some c.requires.short)

pub returns-clause-honest : goal.returns-clause-honest
returns-clause-honest g c = (λ honest. record { disk = honest; whole = refl }, λ is. is.disk)
