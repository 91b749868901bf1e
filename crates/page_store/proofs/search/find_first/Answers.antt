use Rattle.std.proofs.Common.{arith}
use Rattle.page_store.proofs.ChangedMarks.{none_free}
use Rattle.page_store.proofs.search.find_first.Goals as goal

pub returns-clause-none : goal.returns-clause-none
returns-clause-none c = none_free c.args.marks.now (λ p low. c.loop-page.invariant p (omega (arith, low, c.loop-page-test.false)))
