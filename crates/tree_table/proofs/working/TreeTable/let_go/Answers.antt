use Rattle.tree_table.proofs.Versions.{let_go_keeps}
use Rattle.tree_table.proofs.working.TreeTable.let_go.Goals as goal

pub invariant_of-self : goal.invariant_of-self
invariant_of-self g c =
    let self = c.args.self.now in
    record {
      reads = tt;
      some = self.some;
      short = self.short;
      few = self.few;
      points = self.points;
      holds = let_go_keeps self.slot self.text.items self.torn c.args.hold.place (g.P.Pages.store self.store)
          (g.P.Pages.store c.let_go.new.self) c.let_go.ensures self.holds;
      long = tt;
      last = λ honest. tt;
    }
