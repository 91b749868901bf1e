use Rattle.std.proofs.Common.{arith}
use Rattle.rbg_text.proofs.NestingLemmas.{counted_on}
use Rattle.rbg_text.proofs.nesting.nesting.Goals as goal

pub loop-token-preserved : goal.loop-token-preserved
loop-token-preserved c =
    (counted_on c.args.tokens.now _ c.loop-token.token-index c.loop-token.count c.loop-token.greatest _ _ _ c.loop-token-test.true c.loop-token.invariant.0 c.count_after-count.ensures.value c.loop-token.invariant.1 c.max-greatest.ensures, omega arith, omega arith)
