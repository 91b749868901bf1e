use Rattle.rbg_read.proofs.FlatNodes.{product_means, product_flat}
use Rattle.rbg_read.proofs.nodes.product.Goals as goal

pub invariant_of-result : goal.invariant_of-result
invariant_of-result c = record {
  flat = product_flat c.push.new.self c.in_ok-factors.factors.items c.args.left.expr c.args.right.expr c.in_ok-push.ensures.items c.in_ok-factors.ensures.some c.in_ok-factors.ensures.same c.in_ok-factors.ensures.depth c.args.left.flat c.args.right.flat;
}

pub returns : goal.returns
returns c = product_means c.push.new.self c.in_ok-factors.factors.items c.args.left.expr c.args.right.expr c.in_ok-push.ensures.items c.in_ok-factors.ensures.some c.in_ok-factors.ensures.same
