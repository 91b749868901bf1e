use Rattle.std.proofs.Common.{Some, ap}
use Rattle.session.specs.Commands.{IsLoad}
use Rattle.tree_table.specs.Held.{StoresTrees}
use Rattle.in_process.proofs.Answered.{same_call}
use Rattle.in_process.proofs.table_bytes.rbg_load.Goals as goal

pub returns-in-Some-clause-with_goal : goal.returns-in-Some-clause-with_goal
returns-in-Some-clause-with_goal c can =
    same_call (IsLoad (StoresTrees 3) c.args.text.now) (ap (λ n. Some n) c.in-Some.ensures.points) c.loaded-in-Some.ensures
