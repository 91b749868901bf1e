use Rattle.progress.proofs.Refusals.{work_wants_room_alone}
use Rattle.progress.proofs.laws.work_wants_room_alone.Goals as goal

pub returns : goal.returns
returns c = work_wants_room_alone
