use Rattle.rbg_read.proofs.FlatNodes.{sum_means, sum_flat}
use Rattle.rbg_read.proofs.nodes.sum.Goals as goal

pub invariant_of-result : goal.invariant_of-result
invariant_of-result c = record {
  flat = sum_flat c.push.new.self c.in_ok-terms.terms.items c.args.left.expr c.args.right.expr c.in_ok-push.ensures.items c.in_ok-terms.ensures.some c.in_ok-terms.ensures.same c.in_ok-terms.ensures.depth c.args.left.flat c.args.right.flat;
}

pub returns : goal.returns
returns c = sum_means c.push.new.self c.in_ok-terms.terms.items c.args.left.expr c.args.right.expr c.in_ok-push.ensures.items c.in_ok-terms.ensures.some c.in_ok-terms.ensures.same
