use Rattle.std.proofs.Common.{refl}
use Rattle.tree_table.proofs.last.see_near.Goals as goal

pub returns-in-Some-clause-seen : goal.returns-in-Some-clause-seen
returns-in-Some-clause-seen g c =
    let cell = c.in_ok-cell_near.ensures.cell in
    record {
      number = refl;
      cell = λ honest text table h. record { position = cell.position honest text table h; kept = cell.kept honest text table h };
      long = cell.long;
    }

pub returns-clause-seen : goal.returns-clause-seen
returns-clause-seen g c =
    let cell = c.in_ok-cell_near-2.ensures.cell in
    record {
      number = refl;
      cell = λ honest text table h. record { position = cell.position honest text table h; kept = cell.kept honest text table h };
      long = cell.long;
    }
