use Rattle.table.proofs.Frames.{read_then}
use Rattle.earlier_layouts.proofs.CopyExits.{passed_on, leaves_after}
use Rattle.earlier_layouts.proofs.copy.copy_table.Goals as goal

pub returns-in_err-copy_order-clause-left : goal.returns-in_err-copy_order-clause-left
returns-in_err-copy_order-clause-left g c =
    let read = g.met.A.Table.stays_goes_on _ _
    (g.met.A.Table.stays_then _ _ _ c.copy_positions.ensures.read.stays c.copy_edges.ensures.read.stays) in
    let written = g.met.B.Table.goes_on_then _ _ _ c.in_ok-copy_positions.ensures.written.ahead c.in_ok-copy_edges.ensures.written.ahead in
    passed_on _ c.from_residual-in_err-copy_order.result _ c.from_residual-in_err-copy_order.ensures
    (leaves_after _ _ _ _ _ _ _ _ _
    (λ fault. g.met.A.Table.fails_since _ _ _ fault read)
    (λ fault. g.met.B.Table.fails_since _ _ _ fault written)
    (g.met.B.Table.goes_on_then _ _ _ written)
    (λ h. c.in_ok-copy_edges.ensures.written.honest.0 (c.in_ok-copy_positions.ensures.written.honest.0 h))
    c.in_err-copy_order.ensures.left)

pub returns-in_err-copy_order-clause-read : goal.returns-in_err-copy_order-clause-read
returns-in_err-copy_order-clause-read g c =
    read_then g.met.A.Table.stays_then (read_then g.met.A.Table.stays_then c.copy_positions.ensures.read c.copy_edges.ensures.read) c.copy_order.ensures.read

pub returns-clause-read : goal.returns-clause-read
returns-clause-read g c =
    read_then g.met.A.Table.stays_then (read_then g.met.A.Table.stays_then c.copy_positions.ensures.read c.copy_edges.ensures.read) c.copy_order.ensures.read
