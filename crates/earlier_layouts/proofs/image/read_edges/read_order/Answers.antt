use Rattle.std.proofs.Common.{◌++◌, sym, arith}
use Rattle.table.proofs.Exits.{none_done}
use Rattle.earlier_layouts.proofs.ImageExits.{not_damaged, done_whole}
use Rattle.earlier_layouts.proofs.OrderLemmas.{one_more_number}
use Rattle.earlier_layouts.proofs.Splits.{split_on}
use Rattle.earlier_layouts.proofs.image.read_edges.read_order.Goals as goal

pub loop-place-preserved : goal.loop-place-preserved
loop-place-preserved g c =
    let before = c.loop-place.invariant in
    let front = c.split_at.result.0.now in
    record {
      honest = c.in_ok-push_settled.ensures.wrote.honest.0 before.honest;
      long = omega (arith, c.loop-place.invariant.long, c.split_at.ensures.back_len);
      done = before.done ++ front;
      split = split_on c.args.bytes.now before.done c.loop-place.rest.now front c.split_at.result.1.now 4 before.split c.split_at.ensures.front c.split_at.ensures.back;
      so_far =
          one_more_number before.done front c.loop-place._place c.read_u32.result (g.T.Table.stored c.args.table.now)
          (g.T.Table.stored c.loop-place.table) (g.T.Table.stored c.push_settled.new.self)
          before.so_far (record { long = c.split_at.ensures.front_len; is = sym c.read_u32.ensures }) (c.in_ok-push_settled.ensures.pushed before.honest);
    }

pub returns-in_err-push_settled-clause-order : goal.returns-in_err-push_settled-clause-order
returns-in_err-push_settled-clause-order g c = none_done _ c.from_residual.result c.from_residual.ensures.0

pub returns-in_err-push_settled-clause-whole : goal.returns-in_err-push_settled-clause-whole
returns-in_err-push_settled-clause-whole g c = λ is. not_damaged c.from_residual.result c.from_residual.ensures is

pub returns-clause-whole : goal.returns-clause-whole
returns-clause-whole g c = λ is. done_whole _ is
