use Rattle.std.proofs.Common.{refl, ap}
use Rattle.in_process.specs.Rooms.{IsTakenOver}
use Rattle.in_process.proofs.room_calls.rbg_open.Goals as goal

pub returns-in_default : goal.returns-in_default
returns-in_default c = IsTakenOver.no_memory (record { tables = ap (λ t. t.places.items) c.in_default.ensures.kept; number = refl }) refl refl
