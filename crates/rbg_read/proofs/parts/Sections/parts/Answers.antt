use Rattle.std.proofs.Common.{sym}
use Rattle.rbg_read.proofs.Collected.{parts_made}
use Rattle.rbg_read.specs.declared.parts.Parts.{Parts}
use Rattle.rbg_read.proofs.parts.Sections.parts.Goals as goal

pub returns : goal.returns
returns c =
    let parts : Parts = record {
      players = c.in_ok-only.field-0;
      pieces = c.in_ok-only-2.field-0;
      variables = c.in_ok-at_most_one.field-0;
      vertices = c.in_ok-only-3.field-0;
      steps = c.in_ok-only-4.field-0;
    } in
    parts_made c.args.self parts (sym c.in_ok-only.ensures) (sym c.in_ok-only-2.ensures) (sym c.in_ok-at_most_one.ensures)
    (sym c.in_ok-only-3.ensures) (sym c.in_ok-only-4.ensures)
