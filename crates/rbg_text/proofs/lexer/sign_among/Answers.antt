use Rattle.std.proofs.Common.{sym, ◌∙◌, arith}
use Rattle.std.proofs.lemmas.Grind.{common_steps}
use Rattle.rbg_text.specs.Lex.{is_at}
use Rattle.rbg_text.specs.declared.token.Sign.TheVariants.{DoubleArrow}
use Rattle.rbg_text.proofs.LexerLemmas.{sign_among-drop, sign_among-end}
use Rattle.rbg_text.proofs.lexer.sign_among.Goals as goal

pub returns-then-starts_with-clause-value : goal.returns-then-starts_with-clause-value
unfolding is_at
returns-then-starts_with-clause-value c =
    let step = sign_among-drop c.args.signs.now c.args.text.now c.loop-sign.sign-index DoubleArrow c.loop-sign-test.true in
    grind (arith, common_steps)

pub loop-sign-preserved : goal.loop-sign-preserved
unfolding is_at
loop-sign-preserved c =
    let step = sign_among-drop c.args.signs.now c.args.text.now c.loop-sign.sign-index DoubleArrow c.loop-sign-test.true in
    grind (arith, common_steps)

pub returns-clause-value : goal.returns-clause-value
returns-clause-value c = sym (sign_among-end c.args.signs.now c.args.text.now c.loop-sign.sign-index (omega arith)) ∙ c.loop-sign.invariant
