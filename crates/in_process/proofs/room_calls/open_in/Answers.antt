use Rattle.std.proofs.Common.{refl, sym, subst}
use Rattle.std.specs.Prelude.{IsTrue}
use Rattle.byte_disk.specs.InMemory.{disk_in}
use Rattle.solver.specs.Solvers.{state}
use Rattle.in_process.specs.Rooms.{IsTakenOver}
use Rattle.in_process.proofs.Rooms.{added, not_taken}
use Rattle.in_process.proofs.room_calls.open_in.Goals as goal

pub returns-in_default : goal.returns-in_default
returns-in_default c = IsTakenOver.no_memory (record { tables = refl; number = refl }) refl refl

pub returns-in-Err : goal.returns-in-Err
returns-in-Err c =
    not_taken (disk_in c.in-Ok.disk) (disk_in c.in-Err.refused.disk) _ _ c.in-Err.refused.fault c.in-Ok.ensures.unfailed
    (record { contents = c.in-Ok.ensures.contents; synced = c.in-Ok.ensures.synced; honest = c.in-Ok.ensures.honest })
    (c.in-Err.ensures.err.refused, c.in-Err.ensures.err.cause) c.give_refused.ensures.given c.give_refused.ensures.no_memory

pub returns-in-Ok-add : goal.returns-in-Ok-add
returns-in-Ok-add c =
    IsTakenOver.opened (disk_in c.in-Ok.disk)
    (record { contents = c.in-Ok.ensures.contents; synced = c.in-Ok.ensures.synced; honest = c.in-Ok.ensures.honest })
    (added (disk_in c.in-Ok.disk) _ (state c.in-Ok-open.solver) c.new.result c.in-Ok.ensures.unfailed c.in-Ok-open.ensures.ok.opened c.new.ensures.opened
    (c.new.ensures.askable c.in-Ok-open.ensures.ok.ready (subst IsTrue (sym c.in-Ok-open.ensures.ok.opened.from.goes_on.honest) c.in-Ok.ensures.honest))
    c.new.ensures.none c.in-Ok-add.ensures.added c.in-Ok-add.ensures.number) refl refl

pub returns-in-Err-add : goal.returns-in-Err-add
returns-in-Err-add c = IsTakenOver.no_memory (record { tables = c.in-Err-add.ensures.refused; number = refl }) refl refl
