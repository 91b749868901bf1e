use Rattle.std.proofs.Common.{◌≡◌, ℕ, refl}
use Rattle.solver.specs.declared.fault.SolverFault.{SolverFault}
use Rattle.solver.specs.declared.replies.Reply.TheVariants.{Loaded, Worked, Refused}
use Rattle.retrograde.specs.declared.records.Counts.{Counts}
use Rattle.solver.proofs.Turns.{done_turn, refused_turn}
use Rattle.solver.proofs.commands.FileSolver.answer.Goals as goal

-- what is refused is refused by its own fault, and what is done is not refused
its_fault : (fault told : SolverFault) → Refused fault ≡ Refused told → fault ≡ told
its_fault fault told is = cc

not_loaded : (told : SolverFault) → Loaded ≡ Refused told → ⊥
not_loaded told is = cc

not_worked : (told : SolverFault) (units : ℕ) (counts : Counts) → Worked units counts ≡ Refused told → ⊥
not_worked told units counts is = cc

pub returns-in-Ok-clause-turn : goal.returns-in-Ok-clause-turn
returns-in-Ok-clause-turn g c = λ ready.
    let done = rw c.deref.ensures.value at c.in-Ok.ensures.done ready in
    rw c.in-Load.is (done_turn _ _ _ _ c.load.ensures.left.ahead _ done (λ was. let it = (c.in-Ok.ensures.err.closed was).0 in cc))

pub returns-in-Err-clause-turn : goal.returns-in-Err-clause-turn
returns-in-Err-clause-turn g c = λ ready.
    let refused = rw c.deref.ensures.value at c.in-Err.ensures.err.refused ready in
    rw c.in-Load.is (refused_turn _ _ _ _ c.load.ensures.left.ahead _ refused
    (λ was. let it = (c.in-Err.ensures.err.closed was).0 in let same = (c.in-Err.ensures.err.closed was).1 in (cc, rw same refl)))

pub returns-in-Ok-work-clause-turn : goal.returns-in-Ok-work-clause-turn
returns-in-Ok-work-clause-turn g c = λ ready.
    rw c.in-Work.is (done_turn _ _ _ _ c.work.ensures.left.ahead _ (c.in-Ok-work.ensures.done ready)
    (λ was. let it = (c.in-Ok-work.ensures.err.closed was).0 in cc))

pub returns-in-Err-work-clause-turn : goal.returns-in-Err-work-clause-turn
returns-in-Err-work-clause-turn g c = λ ready.
    rw c.in-Work.is
    (refused_turn _ _ _ _ c.work.ensures.left.ahead _ (c.in-Err-work.ensures.err.refused ready)
    (λ was. let it = (c.in-Err-work.ensures.err.closed was).0 in let same = (c.in-Err-work.ensures.err.closed was).1 in (cc, rw same refl)))

pub returns-in-Ok-clause-full : goal.returns-in-Ok-clause-full
returns-in-Ok-clause-full g c = λ ready honest is. absurd (not_loaded _ is)

pub returns-in-Err-clause-full : goal.returns-in-Err-clause-full
returns-in-Err-clause-full g c = λ ready honest is. rw c.in-Load.is tt

pub returns-in-Ok-work-clause-full : goal.returns-in-Ok-work-clause-full
returns-in-Ok-work-clause-full g c = λ ready honest is. absurd (not_worked _ _ _ is)

pub returns-in-Err-work-clause-full : goal.returns-in-Err-work-clause-full
returns-in-Err-work-clause-full g c = λ ready honest is. rw c.in-Work.is (c.in-Err-work.ensures.err.full ready honest (its_fault _ _ is))

pub returns-in-Ok-clause-left : goal.returns-in-Ok-clause-left
returns-in-Ok-clause-left g c = c.load.ensures.left

pub returns-in-Err-clause-left : goal.returns-in-Err-clause-left
returns-in-Err-clause-left g c = c.load.ensures.left

pub returns-in-Ok-work-clause-left : goal.returns-in-Ok-work-clause-left
returns-in-Ok-work-clause-left g c = c.work.ensures.left

pub returns-in-Err-work-clause-left : goal.returns-in-Err-work-clause-left
returns-in-Err-work-clause-left g c = c.work.ensures.left
