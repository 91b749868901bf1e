use Rattle.session.proofs.dialogue.give_back.Goals as goal

pub returns-clause-ready : goal.returns-clause-ready
returns-clause-ready g c = c.loop-listing.invariant.0

pub returns-clause-state : goal.returns-clause-state
returns-clause-state g c = c.loop-listing.invariant.1
