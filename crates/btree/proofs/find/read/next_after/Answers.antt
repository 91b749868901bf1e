use Rattle.std.proofs.Common.{◌≡◌, Bool, subst}
use Rattle.btree.specs.Answers.{filled_entry}
use Rattle.btree.specs.Entries.{next_after}
use Rattle.btree.proofs.find.read.next_after.Goals as goal

pub returns-then-branch-clause-found : goal.returns-then-branch-clause-found
returns-then-branch-clause-found g c = λ honest pages es holds.
    subst (λ (b : Bool). filled_entry b c.next_into.new.into ≡ next_after es c.args.key.now) c.if-branch.true
    (c.in_ok-next_into.ensures.found honest pages es holds)

pub returns-else-branch-clause-found : goal.returns-else-branch-clause-found
returns-else-branch-clause-found g c = λ honest pages es holds.
    subst (λ (b : Bool). filled_entry b c.next_into.new.into ≡ next_after es c.args.key.now) c.if-branch.false
    (c.in_ok-next_into.ensures.found honest pages es holds)
