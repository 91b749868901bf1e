use Rattle.std.proofs.Common.{◌++◌, subst, List, ℕ, arith, ap, Err}
use Rattle.earlier_layouts.specs.lemmas.ImageReads.{AreCells}
use Rattle.earlier_layouts.specs.declared.image.fault.BytesFault.{BytesFault}
use Rattle.table.proofs.Exits.{none_done}
use Rattle.earlier_layouts.proofs.ImageExits.{fault_is, done_whole}
use Rattle.earlier_layouts.proofs.CellLemmas.{cells_more, keeps_rest, rest_then, one_longer, cell_refused, left_after}
use Rattle.earlier_layouts.proofs.Splits.{split_on, split_between}
use Rattle.earlier_layouts.proofs.image.read_cells.read_cells.Goals as goal

pub returns-in_err-read_cell-clause-damaged : goal.returns-in_err-read_cell-clause-damaged
returns-in_err-read_cell-clause-damaged g c = λ is all table long whole.
    let before = c.loop-number.invariant in
    let front = c.split_at-in-loop-number.result.0.now in
    let back = c.split_at-in-loop-number.result.1.now in
    let parts = split_between c.args.cells.now before.done c.loop-number.rest.now front back _ before.split c.split_at-in-loop-number.ensures.front c.split_at-in-loop-number.ensures.back in
    cell_refused c.args.packed before.done front back (g.T.Table.stored c.loop-number.table) all before.read
    (subst (λ (b : List ℕ). AreCells c.args.packed b all) parts whole) table (omega (arith, before.many, long, c.loop-number-test.true))
    c.split_at-in-loop-number.ensures.front_len
    (c.in_err-read_cell.ensures.damaged (ap (λ (f : BytesFault). Err f) (fault_is c.from_residual.result _ c.from_residual.ensures is)))

pub loop-number-preserved : goal.loop-number-preserved
loop-number-preserved g c =
    let before = c.loop-number.invariant in
    let front = c.split_at-in-loop-number.result.0.now in
    let back = c.split_at-in-loop-number.result.1.now in
    let adds = c.in_ok-read_cell.ensures.added in
    let old = g.T.Table.stored c.loop-number.table in
    let new = g.T.Table.stored c.read_cell.new.table in
    record {
      honest = c.in_ok-read_cell.ensures.honest;
      many = omega (arith, before.many, one_longer c.args.packed front old new adds);
      long = left_after c.args.known c.loop-number._number _ _ _ c.loop-number-test.true before.long c.split_at-in-loop-number.ensures.back_len;
      done = before.done ++ front;
      split = split_on c.args.cells.now before.done c.loop-number.rest.now front back _ before.split c.split_at-in-loop-number.ensures.front c.split_at-in-loop-number.ensures.back;
      read = cells_more c.args.packed front old new adds before.done before.read;
      kept = rest_then (g.T.Table.stored c.args.table.now) old new before.kept (keeps_rest c.args.packed front old new adds);
    }

pub returns-in_err-read_cell-clause-honest : goal.returns-in_err-read_cell-clause-honest
returns-in_err-read_cell-clause-honest g c = none_done _ c.from_residual.result c.from_residual.ensures.0

pub returns-in_err-read_cell-clause-cells : goal.returns-in_err-read_cell-clause-cells
returns-in_err-read_cell-clause-cells g c = none_done _ c.from_residual.result c.from_residual.ensures.0

pub returns-in_err-read_cell-clause-known : goal.returns-in_err-read_cell-clause-known
returns-in_err-read_cell-clause-known g c = none_done _ c.from_residual.result c.from_residual.ensures.0

pub returns-in_err-read_cell-clause-rest : goal.returns-in_err-read_cell-clause-rest
returns-in_err-read_cell-clause-rest g c = none_done _ c.from_residual.result c.from_residual.ensures.0

pub returns-clause-damaged : goal.returns-clause-damaged
returns-clause-damaged g c = λ is. absurd (done_whole _ is)

pub returns-clause-honest : goal.returns-clause-honest
returns-clause-honest g c = c.loop-number.invariant.honest
