use Rattle.table.specs.Records.{nothing}
use Rattle.tree_table.specs.lemmas.SpelledTable.{table_is}
use Rattle.tree_table.proofs.HeldTable.{holds_itself}
use Rattle.earlier_layouts.proofs.copying.table_on.Goals as goal

pub invariant_of-result : goal.invariant_of-result
invariant_of-result g c = record {
  reads = tt;
  some = c.requires.sized.some;
  short = c.requires.sized.short;
  few = c.requires.sized.few;
  points = c.requires.sized.points;
  holds = λ honest. ∣ holds_itself c.args.slot c.args.text.items nothing (g.P.Pages.store c.args.store) c.requires.sized.few (c.requires.holds honest.disk) ∣₁;
  long = tt;
  last = λ honest. tt;
}

pub returns-clause-nothing : goal.returns-clause-nothing
returns-clause-nothing g c = λ honest.
    table_is c.args.slot c.args.text.items nothing (g.P.Pages.store c.args.store) c.requires.sized.few (c.requires.holds honest)
