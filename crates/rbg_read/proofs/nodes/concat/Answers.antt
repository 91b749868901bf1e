use Rattle.rbg_read.proofs.FlatNodes.{concat_means, concat_flat}
use Rattle.rbg_read.proofs.nodes.concat.Goals as goal

pub invariant_of-result : goal.invariant_of-result
invariant_of-result c = record {
  flat = concat_flat c.push.new.self c.in_ok-parts.parts.items c.args.left.rules c.args.right.rules c.in_ok-push.ensures.items c.in_ok-parts.ensures.some c.in_ok-parts.ensures.same c.in_ok-parts.ensures.depth c.args.left.flat c.args.right.flat;
}

pub returns : goal.returns
returns c = concat_means c.push.new.self c.in_ok-parts.parts.items c.args.left.rules c.args.right.rules c.in_ok-push.ensures.items c.in_ok-parts.ensures.some c.in_ok-parts.ensures.same
