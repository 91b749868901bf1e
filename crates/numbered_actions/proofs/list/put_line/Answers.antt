use Rattle.numbered_actions.proofs.ActionLines.{line_put}
use Rattle.numbered_actions.proofs.list.put_line.Goals as goal

pub returns : goal.returns
returns c = line_put _ _ _ _ _ _ _ _ c.in_ok-put_head.ensures c.in_ok-extend_from_slice.ensures.items c.in_ok-put_tokens.ensures c.in_ok-push.ensures.items
