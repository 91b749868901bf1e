use Rattle.session_lines.proofs.ActionLists.{actions_listed, text_refused}
use Rattle.session_lines.proofs.actions.actions_to.Goals as goal

pub returns-in-Ok : goal.returns-in-Ok
returns-in-Ok g c =
    actions_listed c.args.text.now c.put_actions.result _ _ c.in-Ok.lines.items c.as_slice.result.now c.as_slice.ensures.value
    c.in-Ok.ensures.listed c.put_actions.ensures

pub returns-in-Err : goal.returns-in-Err
returns-in-Err g c = text_refused c.args.text.now c.in-Err.fault c.write_refused.result _ _ c.in-Err.ensures.fault c.write_refused.ensures
