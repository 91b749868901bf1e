use Rattle.tree_table.proofs.Versions.{taken_keeps}
use Rattle.tree_table.proofs.working.TreeTable.hold.Goals as goal

pub invariant_of-self : goal.invariant_of-self
invariant_of-self g c =
    let self = c.args.self.now in
    record {
      reads = tt;
      some = self.some;
      short = self.short;
      few = self.few;
      points = self.points;
      holds = taken_keeps self.slot self.text.items self.torn (g.P.Pages.store self.store)
          (g.P.Pages.store c.hold.new.self) c.hold.result c.hold.ensures.some c.hold.ensures.none self.holds;
      long = tt;
      last = λ honest. tt;
    }
