use Rattle.std.proofs.lemmas.Result.{IfOk-weaker}
use Rattle.session_lines.proofs.Appends.{appends_then}
use Rattle.witness.proofs.Listings.{printed_two, printed_as, is_some, still_stands_there}
use Rattle.witness.proofs.printed.printed_beside_work.Goals as goal

pub returns : goal.returns
returns g c = λ ready honest kept is.
    let begun = c.in_ok-begun.ensures.begun ready honest kept is c.if-not-begun.false in
    let ready_begun = c.begin.ensures.ready ready in
    let some = begun.go_on.loaded (is_some _ kept is) in
    let (one, first, written) =
    c.in_ok-printed.ensures.printed ready_begun begun.go_on.honest some kept.table _ begun.version 0 begun.is_table begun.stands c.if-not-printed.false in
    let ready_printed = c.print_next.ensures.ready ready_begun in
    let some_printed = first.go_on.loaded some in
    let (between, same) = c.in_ok-between.ensures.go_on ready_printed first.go_on.honest some_printed c.if-not-between.false in
    IfOk-weaker c.print_next-2.result _ _
    (λ done printed so.
    let (other, second, more) = printed so in (
      _,
      printed_as kept.table _ _ 1 256 _ c.units.ensures c.units-2.ensures
          (printed_two g.F.GameFile.stores g.F.GameFile.state g.F.Versions.is_version g.F.Versions.are_two begun.version kept.table _ _ _ _ _ _ _ _ _ one other
          c.a_listing_is_printed_as_it_was.ensures.rows begun.go_on.honest begun.stands.of_table first between second),
      appends_then _ _ _ one other written more,
    ))
    (c.print_next-2.ensures.printed (c.lines_between.ensures.ready ready_printed) between.honest (between.loaded some_printed) kept.table _ begun.version
    first.next begun.is_table
    (still_stands_there g.F.GameFile.stores g.F.GameFile.state g.F.Versions.is_version g.F.Versions.are_two kept.table _ begun.version first.next _ _ _ _
    first.stands between same))
