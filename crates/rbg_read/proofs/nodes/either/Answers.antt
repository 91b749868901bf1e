use Rattle.rbg_read.proofs.FlatNodes.{either_means, either_flat}
use Rattle.rbg_read.proofs.nodes.either.Goals as goal

pub invariant_of-result : goal.invariant_of-result
invariant_of-result c = record {
  flat = either_flat c.push.new.self c.in_ok-branches.branches.items c.args.left.rules c.args.right.rules c.in_ok-push.ensures.items c.in_ok-branches.ensures.some c.in_ok-branches.ensures.same c.in_ok-branches.ensures.depth c.args.left.flat c.args.right.flat;
}

pub returns : goal.returns
returns c = either_means c.push.new.self c.in_ok-branches.branches.items c.args.left.rules c.args.right.rules c.in_ok-push.ensures.items c.in_ok-branches.ensures.some c.in_ok-branches.ensures.same
