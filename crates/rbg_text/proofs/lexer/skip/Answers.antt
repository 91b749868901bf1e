use Rattle.std.proofs.Common.{arith}
use Rattle.std.proofs.lemmas.Grind.{common_steps}
use Rattle.rbg_text.proofs.LexerLemmas.{skip_from-drop, skip_end}
use Rattle.rbg_text.proofs.lexer.skip.Goals as goal

pub returns-in-None-clause-rest : goal.returns-in-None-clause-rest
returns-in-None-clause-rest c =
    let step = skip_from-drop c.loop-at.inside c.args.text.now c.loop-at.at c.loop-at-test.true in
    grind (arith, common_steps)

pub loop-at-preserved : goal.loop-at-preserved
loop-at-preserved c =
    let step = skip_from-drop c.loop-at.inside c.args.text.now c.loop-at.at c.loop-at-test.true in
    grind (arith, common_steps)

pub returns-clause-rest : goal.returns-clause-rest
returns-clause-rest c =
    let step = skip_end c.loop-at.inside c.args.text.now c.loop-at.at (omega arith) in
    grind (arith, common_steps)
