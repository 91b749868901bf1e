use Rattle.table.proofs.EdgeLemmas.{nothing, another, least}
use Rattle.table.proofs.memory.MemTable.least_edge.Goals as goal

pub returns-in_err-edge-clause-none : goal.returns-in_err-edge-clause-none
returns-in_err-edge-clause-none c =
    rw c.from_residual.ensures
    (nothing c.args.self.now.edges c.args.successor c.args.first c.range.result (c.range.ensures.in_range tt) c.in_err-edge.ensures.steps.0)

pub returns-then-edge-successor-clause-none : goal.returns-then-edge-successor-clause-none
returns-then-edge-successor-clause-none c =
    another c.args.self.now.edges c.args.successor c.args.first c.range.result (c.range.ensures.in_range tt)
    c.in_ok-edge.edge.now.0 c.in_ok-edge.edge.now.1 c.next.new.self c.in_ok-edge.ensures.steps c.if-edge-successor.true

pub returns-clause-some : goal.returns-clause-some
returns-clause-some c =
    least c.args.self.now.edges c.args.successor c.args.first c.range.result (c.range.ensures.in_range tt)
    c.in_ok-edge.edge.now.0 c.in_ok-edge.edge.now.1 c.next.new.self c.in_ok-edge.ensures.steps c.if-edge-successor.false
