use Rattle.std.proofs.Common.{rules}
use Rattle.audit.proofs.LowestLemmas.{waiting_order, waiting_fails, waiting_holds}
use Rattle.audit.proofs.values.waiting_failing.Goals as goal

pub returns-in-Some : goal.returns-in-Some
returns-in-Some c = λ stored i table has counts floor above.
    waiting_order stored i above c.args.kept has c.in-Some.reason (rw c.in-Some.is at c.order_failing.ensures stored i table has counts floor)

pub returns-then-is_some : goal.returns-then-is_some
returns-then-is_some c = λ stored i table has counts floor above.
    waiting_fails stored i above c.args.kept has (rw c.in_default.is at c.order_failing.ensures stored i table has counts floor) (search rules)

pub returns : goal.returns
returns c = λ stored i table has counts floor above.
    waiting_holds stored i above c.args.kept has (rw c.in_default.is at c.order_failing.ensures stored i table has counts floor) (search rules)
