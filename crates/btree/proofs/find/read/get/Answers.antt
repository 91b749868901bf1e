use Rattle.std.proofs.Common.{◌≡◌, Bool, subst}
use Rattle.btree.specs.Answers.{filled_bytes}
use Rattle.btree.specs.Entries.{find_entry}
use Rattle.btree.proofs.find.read.get.Goals as goal

pub returns-then-branch-clause-found : goal.returns-then-branch-clause-found
returns-then-branch-clause-found g c = λ honest pages es holds.
    subst (λ (b : Bool). filled_bytes b c.get_into.new.into ≡ find_entry es c.args.key.now) c.if-branch.true
    (c.in_ok-get_into.ensures.found honest pages es holds)

pub returns-else-branch-clause-found : goal.returns-else-branch-clause-found
returns-else-branch-clause-found g c = λ honest pages es holds.
    subst (λ (b : Bool). filled_bytes b c.get_into.new.into ≡ find_entry es c.args.key.now) c.if-branch.false
    (c.in_ok-get_into.ensures.found honest pages es holds)
